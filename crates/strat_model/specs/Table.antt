-- A table gives each version its own map.
use Rattle.std.specs.Prelude.{ℕ, Bool, false, List, [], ◌∷◌, Option, None, map}
use Rattle.strat_base.specs.Tree.{Parents}
use Rattle.strat_base.specs.Marks.{Marks}
use Rattle.strat_model.specs.Pairs.{Pairs}

-- a version: its parent, if it has one, whether it was dropped, and its map
pub record Row : Type 0 where
  pub parent : Option ℕ
  pub dropped : Bool
  pub pairs : Pairs

-- an open cursor: its number, and the pairs that it has left
pub record Cursor : Type 0 where
  pub number : ℕ
  pub left : Pairs

-- the versions by their numbers, what was done so far, and what may still be done
pub record Table : Type 0 where
  pub changes_max : ℕ
  pub versions_max : ℕ
  pub rows : List Row
  pub updates : ℕ
  pub changes : ℕ
  pub cursors : List Cursor
  pub next_cursor : ℕ

-- a new table: version 0 alone, with the empty map
abbrev pub fresh : ℕ → ℕ → Table
fresh changes_max versions_max = record {
  changes_max = changes_max;
  versions_max = versions_max;
  rows = record { parent = None; dropped = false; pairs = [] } ∷ [];
  updates = 0;
  changes = 0;
  cursors = [];
  next_cursor = 1;
}

-- what of a table outlasts a run: all but the cursors
abbrev pub bare : Table → Table
bare t = record t { cursors = []; next_cursor = 1 }

-- the tree of a table's versions
abbrev pub parents_of : Table → Parents
parents_of t = map (λ row. row.parent) t.rows

-- which of a table's versions were dropped
abbrev pub marks_in : Table → Marks
marks_in t = map (λ row. row.dropped) t.rows
