use Rattle.std.proofs.Common.{◌≡◌, ◌∙◌, ◌%◌, ℕ, List, length, ltb, sym, ap, subst, arith, IsTrue, ◌<◌, ◌||◌, [], map, get_or}
use Rattle.std.specs.List.{list_all}
use Rattle.strat_check.specs.MarkedGroups.{is_owned}
use Rattle.strat_check.specs.StrayGroups.{group_entries}
use Rattle.strat_check.specs.Strays.{strays_at, has_live_stray}
use Rattle.strat_check.proofs.OwnerLemmas.{tag_at}
use Rattle.strat_check.proofs.SettledLemmas.{known_item}
use Rattle.strat_base.specs.declared.descriptors.ArrayDesc.{ArrayDesc}
use Rattle.strat_check.proofs.stray_group.settle_item.Goals as goal

pub lives_by_now-requires-clause-fits : goal.lives_by_now-requires-clause-fits
lives_by_now-requires-clause-fits c =
    let low = c.requires.fits c.index-arrays-place.result (c.args.item.now.version % 16384, omega (arith, c.is_due.ensures.fits c.if-is_due.true, c.requires.len), sym c.index-arrays-place.is) in
    let tag : c.as_slice-tag.result.now ≡ c.index-arrays-place.result.versions = c.as_slice-tag.ensures.ok ∙ ap (λ (a : ArrayDesc). a.versions) (sym c.index-arrays-place.is) in
    let here : IsTrue (list_all (λ v. ltb v (length c.args.tree.now.parents)) c.as_slice-tag.result.now) = subst (λ (vs : List ℕ). IsTrue (list_all (λ v. ltb v (length c.args.tree.now.parents)) vs)) (sym tag) low in
    here

pub returns-in_ok-lives-clause-ok : goal.returns-in_ok-lives-clause-ok
returns-in_ok-lives-clause-ok c = λ i low.
    let within : c.args.item.now.version % 16384 < length c.args.arrays.now = omega (arith, c.is_due.ensures.fits c.if-is_due.true, c.requires.len) in
    let tag : c.as_slice-tag.result.now ≡ get_or (map (λ (a : ArrayDesc). a.versions) c.args.arrays.now) (c.args.item.now.version % 16384) [] =
    c.as_slice-tag.ensures.ok ∙ ap (λ (a : ArrayDesc). a.versions) (sym c.index-arrays-place.is)
    ∙ sym (tag_at (λ (a : ArrayDesc). a.versions) c.args.arrays.now (c.args.item.now.version % 16384) c.index-arrays-place.result within c.index-arrays-place.is) in
    c.settle.ensures.ok i low
    ∙ known_item (c.args.item.now.version % 16384) i c.in_ok-lives.lives
    (has_live_stray c.args.tree.now.parents (is_owned c.args.g.now.owners.now) (get_or (map (λ (a : ArrayDesc). a.versions) c.args.arrays.now) i []) i (group_entries c.args.g.now)) (strays_at c.args.found.now i) (λ here.
    subst (λ (k : ℕ). ((strays_at c.args.found.now k).is_live || c.in_ok-lives.lives)
    ≡ ((strays_at c.args.found.now k).is_live
    || has_live_stray c.args.tree.now.parents (is_owned c.args.g.now.owners.now) (get_or (map (λ (a : ArrayDesc). a.versions) c.args.arrays.now) k []) k (group_entries c.args.g.now))) here
    (c.in_ok-lives.ensures.ok
    ∙ ap (λ (vs : List ℕ). (strays_at c.args.found.now (c.args.item.now.version % 16384)).is_live
    || has_live_stray c.args.tree.now.parents (is_owned c.args.g.now.owners.now) vs (c.args.item.now.version % 16384) (group_entries c.args.g.now)) tag))
