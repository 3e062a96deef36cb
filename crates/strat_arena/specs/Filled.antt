-- What the cells of a block hold.
use Rattle.std.specs.Prelude.{◌≡◌, ℕ, ◌+◌, ◌≤◌, List, [], ◌∷◌, ◌++◌, map, length, take, drop, Option, Some, None}

-- the first len cells hold bytes
abbrev pub BeginsFilled : List (Option ℕ) → ℕ → Type 0
BeginsFilled slots len =
    (len ≤ length slots) × ((bytes : List ℕ) × (take len slots ≡ map Some bytes))

-- the bytes that are there
abbrev pub held_bytes : List (Option ℕ) → List ℕ
held_bytes [] = []
held_bytes (None ∷ slots) = held_bytes slots
held_bytes (Some x ∷ slots) = x ∷ held_bytes slots

-- cells after these bytes were written into them from an index on
abbrev pub with_bytes : List (Option ℕ) → ℕ → List ℕ → List (Option ℕ)
with_bytes slots from bytes =
    take from slots ++ (map Some bytes ++ drop (from + length bytes) slots)
