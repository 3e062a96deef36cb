-- What is described of writers has the blocks of these.
use Rattle.std.proofs.Common.{◌≡◌, ◌+◌, ℕ, suc, subst, List, [], ◌∷◌, length, map, Option, None, Some, refl, sym, ap, ◌∙◌, arith}
use Rattle.std.specs.List.{AllByRecursion, slice_get}
use Rattle.strat_array.specs.Progress.{ArrayProgress}
use Rattle.strat_array.specs.Pushed.{AreMaximal}
use Rattle.strat_array.specs.Within.{AreWithin}
use Rattle.strat_base.specs.declared.descriptors.ArrayDesc.{ArrayDesc}
use Rattle.strat_base.specs.declared.descriptors.Extent.{Extent}
use Rattle.strat_base.specs.declared.descriptors.LevelDesc.{LevelDesc}
use Rattle.def_split.specs.Plan.{Plan}
use Rattle.strat_promote.specs.Closing.{IsDescribed, IsDescriptor}
use Rattle.strat_promote.specs.Owned.{OwnsItsBlocks}

-- lists of one length whose elements have the same blocks at each index
same_extents : (writers : List ArrayProgress) (arrays : List ArrayDesc) → length arrays ≡ length writers
    → ((q : ℕ) (w : ArrayProgress) → slice_get writers q ≡ Some w → (a : ArrayDesc) × (slice_get arrays q ≡ Some a) × (a.extents ≡ w.extents))
    → map (λ (a : ArrayDesc). a.extents) arrays ≡ map (λ (w : ArrayProgress). w.extents) writers
same_extents [] [] len each = refl
same_extents [] (a ∷ arrays) len each = absurd (cc)
same_extents (w ∷ writers) [] len each = absurd (cc)
same_extents (w ∷ writers) (a ∷ arrays) len each =
    let first = each 0 w refl in
    let is : a ≡ first.0 = (let e : Some a ≡ Some first.0 = first.1 in cc) in
    let here : a.extents ≡ w.extents = ap (λ (b : ArrayDesc). b.extents) is ∙ first.2 in
    ap (λ (xs : List Extent). xs ∷ map (λ (b : ArrayDesc). b.extents) arrays) here
    ∙ ap (λ (xs : List (List Extent)). w.extents ∷ xs) (same_extents writers arrays (omega (arith, len)) (λ q x there. each (suc q) x there))

-- the extents of arrays that are described are as large as they may be
all_spelled : (plan : Plan) (writers : List ArrayProgress) (arrays : List ArrayDesc) (n : ℕ) → length arrays ≡ length writers
    → ((q : ℕ) (w : ArrayProgress) → slice_get writers q ≡ Some w → (a : ArrayDesc) × (slice_get arrays q ≡ Some a) × IsDescriptor plan (n + q) w a)
    → AllByRecursion (λ (xs : List Extent). AreMaximal xs × AreWithin xs) (map (λ (a : ArrayDesc). a.extents) arrays)
all_spelled plan [] [] n len each = tt
all_spelled plan [] (a ∷ arrays) n len each = absurd (cc)
all_spelled plan (w ∷ writers) [] n len each = absurd (cc)
all_spelled plan (w ∷ writers) (a ∷ arrays) n len each =
    let first = each 0 w refl in
    let is : first.0 ≡ a = (let e : Some first.0 ≡ Some a = sym first.1 in cc) in
    let here : AreMaximal a.extents × AreWithin a.extents =
    subst (λ (b : ArrayDesc). AreMaximal b.extents × AreWithin b.extents) is (first.2.maximal, first.2.within) in (
      here,
      all_spelled plan writers arrays (n + 1) (omega (arith, len)) (λ q x there.
          let one = each (suc q) x there in
          let at : n + suc q ≡ n + 1 + q = omega arith in
          (one.0, one.1, subst (λ (i : ℕ). IsDescriptor plan i x one.0) at one.2)),
    )

-- what is described of writers has their blocks
pub owned : (plan : Plan) (number : ℕ) (writers : List ArrayProgress) (made : Option LevelDesc) → IsDescribed plan number writers made → OwnsItsBlocks writers made
owned plan number writers None described =
    record { owned = sym (ap (λ (ws : List ArrayProgress). map (λ (w : ArrayProgress). w.extents) ws) described); each = tt }
owned plan number writers (Some level) described = record {
  owned = same_extents writers level.arrays described.len (λ q w there.
      let one = described.each q w there in
      (one.0, one.1, one.2.extents));
  each = all_spelled plan writers level.arrays 0 described.len (λ q w there.
      let one = described.each q w there in
      let at : q ≡ 0 + q = omega arith in
      (one.0, one.1, subst (λ (i : ℕ). IsDescriptor plan i w one.0) at one.2));
}
