-- Places of entries in a block.
use Rattle.std.specs.Prelude.{◌≡◌, ◌<◌, ◌≤◌, ℕ, true, false, List, [], length, slice_index_or, unwrap_or, Bool}
use Rattle.std.specs.Ordering.{is_lt}
use Rattle.strat_base.specs.Order.{key_cmp}
use Rattle.strat_base.specs.Entries.{Entry}
use Rattle.def_bytes.specs.Block.{block_in}

-- the entries of a block, seen from its bytes
abbrev pub entries_of_block : List ℕ → List Entry
entries_of_block bytes = unwrap_or (block_in bytes) []

-- an entry's key is before this one
abbrev pub stands_below : List ℕ → Entry → Bool
stands_below key e = is_lt (key_cmp e.key key)

-- the entries before place i are those whose keys are before this one
pub record IsFirstFrom (key : List ℕ) (entries : List Entry) (i : ℕ) : Type 0 where
  pub within : i ≤ length entries
  pub before : (k : ℕ) (d : Entry) → k < i
      → stands_below key (slice_index_or entries k d) ≡ true
  pub after : (k : ℕ) (d : Entry) → i ≤ k → k < length entries
      → stands_below key (slice_index_or entries k d) ≡ false
