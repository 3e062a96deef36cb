-- Places in an array: what is left from there on, and where the entries from a key on begin.
use Rattle.std.specs.Prelude.{◌≡◌, ◌≤◌, ◌<◌, ℕ, ◌+◌, ◌-◌, not, Bool, true, false, List, [], ◌∷◌, ◌++◌, length, drop, flat_map, slice_index_or}
use Rattle.strat_base.specs.Entries.{Entry}
use Rattle.strat_block.specs.Places.{stands_below}

-- the entries of all blocks, one after the other
abbrev pub all_in : List (List Entry) → List Entry
all_in lists = flat_map (λ entries. entries) lists

-- the entries from an index of a block on; past the block's end it is the next block's first
abbrev pub left_at : List (List Entry) → ℕ → ℕ → List Entry
left_at lists block index =
    drop index (slice_index_or lists block []) ++ all_in (drop (block + 1) lists)

-- a block has an entry
abbrev pub has_entry : List Entry → Bool
has_entry [] = false
has_entry (e ∷ entries) = true

-- an entry's key is a key or after it
abbrev pub is_from : List ℕ → Entry → Bool
is_from key e = not (stands_below key e)

-- the first key of a block is below a key
abbrev pub starts_below : List ℕ → List Entry → Bool
starts_below key [] = false
starts_below key (e ∷ entries) = stands_below key e

-- the block before a number starts below a key, and the block at it doesn't
pub record Bound (key : List ℕ) (n : ℕ) (lists : List (List Entry)) : Type 0 where
  pub within : n ≤ length lists
  pub below : 0 < n → starts_below key (slice_index_or lists (n - 1) []) ≡ true
  pub above : n < length lists → starts_below key (slice_index_or lists n []) ≡ false
