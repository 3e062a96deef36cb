-- The parts that wait to be dealt, the greatest first.
use Rattle.std.specs.Prelude.{◌≡◌, ◌<◌, ◌≤◌, ℕ, ◌||◌, Bool, List, length, slice_index, slice_index_or, Option, None, is_some, IsTrue}
use Rattle.strat_arena.specs.declared.items.Item.{Item}

-- a part has a lead, or something that it takes over
abbrev pub has_work : List (Option ℕ) → List (Option Item) → ℕ → Bool
has_work heads gifts q =
    is_some (slice_index_or heads q None) || is_some (slice_index_or gifts q None)

-- numbers descend, and are those that pass a test
pub record IsListed (test : ℕ → Bool) (numbers : List ℕ) : Type 0 where
  pub descends : (j k : ℕ) → j < k → k < length numbers
      → slice_index numbers k < slice_index numbers j
  pub each : (k : ℕ) → k < length numbers → IsTrue (test (slice_index numbers k))
  pub all : (q : ℕ) → IsTrue (test q) → (k : ℕ) × (k < length numbers) × (slice_index numbers k ≡ q)

-- the numbers before a place are greater than a number, and the others are less
pub record IsWaitingPlace (q : ℕ) (numbers : List ℕ) (at : ℕ) : Type 0 where
  pub high : (k : ℕ) → k < at → q < slice_index numbers k
  pub low : (k : ℕ) → at ≤ k → k < length numbers → slice_index numbers k < q
