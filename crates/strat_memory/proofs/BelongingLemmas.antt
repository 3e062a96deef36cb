-- Sums that stand still at the end of their type, and tests of all arrays.
use Rattle.std.proofs.Common.{◌≡◌, ◌<◌, ◌≤◌, ◌+◌, ◌-◌, ◌^◌, ℕ, leb, min, List, [], ◌∷◌, inl, inr, refl, sym, ap, ◌∙◌, arith}
use Rattle.std.proofs.Math.Nat.{min-eq_left, le-min}
use Rattle.std.proofs.lemmas.Bool.{cases_Bool, leb-true, leb-false, lt-leb}
use Rattle.std.proofs.lemmas.List.Sums.{sum_by-cons, sum_by-append}
use Rattle.std.specs.List.{sum_by}
use Rattle.strat_base.specs.declared.descriptors.ArrayDesc.{ArrayDesc}
use Rattle.strat_base.specs.declared.descriptors.LevelDesc.{LevelDesc}
use Rattle.def_publish.specs.Occupied.{arrays_in}

-- a number that stands still at an end is at most one below that end exactly where it is so itself
pub capped : (n m : ℕ) → m < 4294967296 → leb (min n (2 ^ 64 - 1)) m ≡ leb n m
capped n m few =
    elim (cases_Bool (leb n m)) [
      | inl passes ↦
          let below : n ≤ 2 ^ 64 - 1 = omega (arith, leb-true n m passes, few) in
          ap (λ (k : ℕ). leb k m) (min-eq_left below)
      | inr fails ↦
          let above : m < n = leb-false n m fails in
          let least : m + 1 ≤ min n (2 ^ 64 - 1) = le-min (omega (arith, above)) (omega (arith, few)) in
          lt-leb (min n (2 ^ 64 - 1)) m (omega (arith, least)) ∙ sym fails
    ]

pub few_leads : (levels : List LevelDesc) (m : ℕ) → m < 4294967296 → leb (min (sum_by (λ (l : LevelDesc). sum_by (λ a. a.leads) l.arrays) levels) (2 ^ 64 - 1)) m ≡ leb (sum_by (λ a. a.leads) (arrays_in levels)) m
few_leads levels m few = capped (sum_by (λ (l : LevelDesc). sum_by (λ a. a.leads) l.arrays) levels) m few ∙ ap (λ (n : ℕ). leb n m) (sym (joined levels))
  where
    joined : (ls : List LevelDesc) → sum_by (λ a. a.leads) (arrays_in ls) ≡ sum_by (λ (l : LevelDesc). sum_by (λ a. a.leads) l.arrays) ls
    joined [] = refl
    joined (l ∷ ls) =
        omega (
          arith,
          sum_by-append (λ (a : ArrayDesc). a.leads) l.arrays (arrays_in ls),
          sum_by-cons (λ (x : LevelDesc). sum_by (λ a. a.leads) x.arrays) l ls,
          joined ls,
        )
