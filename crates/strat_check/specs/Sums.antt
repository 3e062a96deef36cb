-- Numbers of 64 bits at each version, and what is added to them.
use Rattle.std.specs.Prelude.{◌≡◌, ◌<◌, ◌≤◌, ◌+◌, ◌-◌, ◌*◌, ◌^◌, min, ℕ, List, length, slice_index}
use Rattle.std.specs.Option.{option_map_or}
use Rattle.strat_base.specs.Tree.{Parents, parent_of}

-- the greatest number of 64 bits
abbrev pub greatest : ℕ
greatest = 2 ^ 64 - 1

-- at each version a number has grown by this much, if that is a number of 64 bits
abbrev pub HaveGrown : (ℕ → ℕ) → List ℕ → List ℕ → Type 0
HaveGrown more before after = (v : ℕ) → v < length before
    → slice_index before v + more v ≤ greatest
    → slice_index after v ≡ slice_index before v + more v

-- below n each number is one more than the version times this many, if that is a number of 64 bits
abbrev pub AreWeighed : List ℕ → List ℕ → ℕ → Type 0
AreWeighed own weights n = (v : ℕ) → v < n
    → slice_index own v * (v + 1) ≤ greatest
    → slice_index weights v ≡ slice_index own v * (v + 1)

-- what the parent of a version has, or 0
abbrev pub sum_above : Parents → List ℕ → ℕ → ℕ
sum_above parents sums v = option_map_or (λ p. slice_index sums p) (parent_of parents v) 0

-- below n each version has what its parent has and what it gains, without what it loses
abbrev pub AreSumsOf : Parents → List ℕ → List ℕ → List ℕ → ℕ → Type 0
AreSumsOf parents gained lost sums n = (v : ℕ) → v < n
    → slice_index sums v
    ≡ min (sum_above parents sums v + slice_index gained v) greatest - slice_index lost v
