use Rattle.std.proofs.Common.{◌≡◌, ◌*◌, ◌∙◌, ◌++◌, ◌∷◌, [], ℕ, true, List, length, map, sym, ap, subst}
use Rattle.strat_arena.specs.Items.{entries_of}
use Rattle.strat_arena.specs.declared.items.Item.{Item}
use Rattle.strat_base.specs.declared.descriptors.ArrayDesc.{ArrayDesc}
use Rattle.strat_live.specs.Counting.{are_below}
use Rattle.strat_merge.specs.Gathered.{are_under}
use Rattle.strat_merge.specs.MergerFields.{views_of}
use Rattle.strat_check.specs.LevelPasses.{AreGroupsCounted}
use Rattle.strat_check.specs.MarkedGroups.{is_owned, owned_versions}
use Rattle.strat_check.specs.MarkedRuns.{marked_seen}
use Rattle.strat_check.specs.Strays.{AreNoted}
use Rattle.strat_check.specs.declared.strays.Strays.{Strays}
use Rattle.strat_check.proofs.LevelPassLemmas.{counted_more}
use Rattle.strat_check.proofs.MarkedGroupLemmas.{entries_some}
use Rattle.strat_check.proofs.OwnerLemmas.{put_back}
use Rattle.strat_check.proofs.level_count.count_group.Goals as goal

pub returns-clause-ok : goal.returns-clause-ok
returns-clause-ok g c = λ _ f runs told own counting.
    let tree = c.args.tree.now.parents in
    let tags = map (λ (a : ArrayDesc). a.versions) c.args.arrays.now in
    let owners = c.args.pass.now.owners.items in
    let next = c.in_ok-next_leads.ensures in
    let more = c.if-not-branch.false in
    let group = next.found more in
    let pairs = c.next_leads.new.merging.arena.pairs in
    let items = c.next_leads.new.merging.group in
    let found = c.args.pass.now.found.items in
    let under : are_under (16384 * length owners) (views_of marked_seen c.args.pass.now.merging.merger) ≡ true =
    subst (λ (n : ℕ). are_under (16384 * n) (views_of marked_seen c.args.pass.now.merging.merger) ≡ true) (sym c.requires.kept.owners) c.requires.kept.merging.under in
    let low : are_below (16384 * length owners) items ≡ true = group.1.low (16384 * length owners) under in
    let before : AreNoted tree (is_owned c.deref-3.result.now) tags (entries_of pairs c.items.result.now) c.deref_mut.result.now c.note_group.new.found = c.in_ok-note_group.ensures.ok in
    let noted : AreNoted tree (is_owned owners) tags (entries_of pairs items) found c.note_group.new.found =
    subst (λ (xs : List Strays). AreNoted tree (is_owned owners) tags (entries_of pairs items) xs c.note_group.new.found) c.deref_mut.ensures.value
    (subst (λ (xs : List Item). AreNoted tree (is_owned owners) tags (entries_of pairs xs) c.deref_mut.result.now c.note_group.new.found) c.items.ensures.ok
    (subst (λ (xs : List ℕ). AreNoted tree (is_owned xs) tags (entries_of pairs c.items.result.now) c.deref_mut.result.now c.note_group.new.found) c.deref-3.ensures.value before)) in
    let size : length c.note_group.new.found ≡ length found = noted.len in
    let back = put_back found c.note_group.new.found c.args.pass.now.found.len (sym c.deref_mut.ensures.len ∙ ap (λ (xs : List Strays). length xs) c.deref_mut.ensures.value) size in
    record {
      groups = counting.groups ++ entries_of pairs items ∷ [];
      merged = next.ok more f runs counting.groups told counting.merged;
      counted = subst (λ (xs : List Strays). AreGroupsCounted tree tags (counting.groups ++ entries_of pairs items ∷ []) xs c.add.new.self) (sym back)
          (counted_more tree tags owners own pairs items low counting.groups found c.note_group.new.found c.args.sights.now c.add.new.self c.deref-2.result.now counting.counted noted
          (c.deref-2.ensures.value ∙ next.state more ∙ ap (λ (xs : List ℕ). owned_versions xs (entries_of pairs items)) c.deref.ensures.value) c.add.ensures.ok);
    }

pub returns-clause-state : goal.returns-clause-state
returns-clause-state g c = λ _.
    let next = c.in_ok-next_leads.ensures in
    let more = c.if-not-branch.false in
    (entries_of c.next_leads.new.merging.arena.pairs c.next_leads.new.merging.group, entries_some _ _ (next.found more).1.some, λ f runs groups told merged. next.ok more f runs groups told merged)
