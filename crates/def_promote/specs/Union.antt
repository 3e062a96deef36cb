-- The union of lists of entries: of each key and version the first.
use Rattle.std.specs.Prelude.{◌≡◌, ℕ, List, find, IsTrue}
use Rattle.strat_base.specs.Entries.{Entry, is_at, is_ascending}

-- these entries, in order, are the union of others: for each key and version the first of the others, and no more
pub record IsUnion (others entries : List Entry) : Type 0 where
  pub ascending : IsTrue (is_ascending entries)
  pub first : (key : List ℕ) (u : ℕ) → find (is_at key u) entries ≡ find (is_at key u) others
