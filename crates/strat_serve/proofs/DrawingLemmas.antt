-- The version of an update.
use Rattle.std.proofs.Common.{◌≡◌, ◌<◌, ◌+◌, ◌-◌, ℕ, suc, true, false, ◌∷◌, length, refl, sym, ap, ◌∙◌, arith}
use Rattle.std.specs.List.{range_with_len}
use Rattle.strat_base.specs.Tree.{Parents, has_child}
use Rattle.def_texts.specs.Workload.{leaf_from}

-- the numbers from one on, so many and one more
from_is : (v n m : ℕ) → n - v ≡ suc m → range_with_len v (n - v) ≡ v ∷ range_with_len (suc v) m
from_is v n m is = ap (range_with_len v) is ∙ ap (λ (u : ℕ). v ∷ range_with_len u m) (let e : v + 1 ≡ suc v = omega arith in e)

-- a version with a child leaves the choice to the next one
pub leaf_next : (parents : Parents) (v : ℕ) → v + 1 < length parents → has_child parents v ≡ true → leaf_from parents (v + 1) ≡ leaf_from parents v
leaf_next parents v lt child =
    let e = from_is v (length parents) (length parents - suc v) (omega (arith, lt)) in
    let next : leaf_from parents v ≡ leaf_from parents (suc v) = rw (e, child) refl in
    ap (leaf_from parents) (let s : v + 1 ≡ suc v = omega arith in s) ∙ sym next

-- one without a child is chosen
pub leaf_here : (parents : Parents) (v : ℕ) → v < length parents → has_child parents v ≡ false → leaf_from parents v ≡ v
leaf_here parents v lt none =
    let e = from_is v (length parents) (length parents - suc v) (omega (arith, lt)) in
    rw (e, none) refl

-- so is the newest
pub leaf_last : (parents : Parents) (v : ℕ) → suc v ≡ length parents → leaf_from parents v ≡ v
leaf_last parents v last =
    elim (has_child parents v) as (λ b. has_child parents v ≡ b → leaf_from parents v ≡ v) [
      | true ↦ λ is.
          let e = from_is v (length parents) 0 (omega (arith, last)) in
          let newest : length parents - 1 ≡ v = omega (arith, last) in
          rw (e, is, newest) refl
      | false ↦ λ is. leaf_here parents v (omega (arith, last)) is
    ] refl
