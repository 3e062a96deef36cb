use Rattle.std.proofs.Common.{◌≡◌, ◌∙◌, ◌<◌, ◌+◌, ℕ, List, cond, length, get_or, ltb, sym, ap, subst, IsTrue}
use Rattle.std.specs.List.{list_all}
use Rattle.strat_base.specs.Entries.{is_tagged}
use Rattle.std.proofs.lemmas.List.{get_or-replicate, length-replicate}
use Rattle.strat_base.specs.declared.descriptors.ArrayDesc.{ArrayDesc}
use Rattle.strat_check.proofs.OwnerLemmas.{AreOwnersTo, owned_none, owned_all, owned_more, put_back}
use Rattle.strat_check.proofs.owners.owners_of.Goals as goal

pub loop-i-init : goal.loop-i-init
loop-i-init c =
    let items = c.in_ok-owners.ensures.items_if_clones_equal (λ y same. same) in
    let size = ap (λ (ns : List ℕ). length ns) items ∙ length-replicate c.args.versions 4294967295 in
    (size, λ apart. owned_none _ _ c.args.versions _ size (λ u known. ap (λ (ns : List ℕ). get_or ns u 0) items ∙ get_or-replicate c.args.versions u 4294967295 0 known))

pub claim-requires : goal.claim-requires
claim-requires c =
    let low = c.requires.fits c.index-arrays-i.result (c.loop-i.i, c.loop-i-test.true, sym c.index-arrays-i.is) in
    let size : length c.deref_mut.result.now ≡ c.args.versions = ap (λ (ns : List ℕ). length ns) c.deref_mut.ensures.value ∙ c.loop-i.invariant.0 in
    let tag : c.as_slice.result.now ≡ c.index-arrays-i.result.versions = c.as_slice.ensures.ok ∙ ap (λ (a : ArrayDesc). a.versions) (sym c.index-arrays-i.is) in
    let here : IsTrue (list_all (λ v. ltb v (length c.deref_mut.result.now)) c.as_slice.result.now) =
    subst (λ (vs : List ℕ). IsTrue (list_all (λ v. ltb v (length c.deref_mut.result.now)) vs)) (sym tag)
    (subst (λ (n : ℕ). IsTrue (list_all (λ v. ltb v n) c.index-arrays-i.result.versions)) (sym size) low) in
    record { fits = here }

pub loop-i-preserved : goal.loop-i-preserved
loop-i-preserved c =
    let value = c.deref_mut.ensures.value in
    let tag : c.as_slice.result.now ≡ c.index-arrays-i.result.versions = c.as_slice.ensures.ok ∙ ap (λ (a : ArrayDesc). a.versions) (sym c.index-arrays-i.is) in
    let same : length c.claim.new.owners ≡ length c.loop-i.owners.items = c.claim.ensures.len ∙ ap (λ (ns : List ℕ). length ns) value in
    let back = put_back c.loop-i.owners.items c.claim.new.owners c.loop-i.owners.len (sym c.deref_mut.ensures.len ∙ ap (λ (ns : List ℕ). length ns) value) same in (
      ap (λ (ns : List ℕ). length ns) back ∙ same ∙ c.loop-i.invariant.0,
      λ apart.
          subst (λ (ns : List ℕ). AreOwnersTo (λ (a : ArrayDesc). a.versions) c.args.arrays.now (c.loop-i.i + 1) ns) (sym back)
          (owned_more (λ (a : ArrayDesc). a.versions) c.args.arrays.now apart c.loop-i.i c.index-arrays-i.result c.loop-i.owners.items c.claim.new.owners c.loop-i-test.true c.index-arrays-i.is same
          (λ u known.
          c.claim.ensures.ok u (subst (λ (ns : List ℕ). u < length ns) (sym value) known)
          ∙ (λ j. cond (is_tagged (tag j) u) c.loop-i.i (get_or (value j) u 0)))
          (c.loop-i.invariant.1 apart)),
    )

pub returns-clause-ok : goal.returns-clause-ok
returns-clause-ok c = λ apart u k known low.
    owned_all (λ (a : ArrayDesc). a.versions) c.args.arrays.now c.loop-i.i c.loop-i.owners.items c.loop-i-test.false (c.loop-i.invariant.1 apart) u k known low
