-- Tables with a version that was dropped, and the same before it was.
use Rattle.std.specs.Prelude.{ℕ, true, false, [], ◌∷◌, Option, Some, None}
use Rattle.strat_model.specs.Pairs.{Pairs}
use Rattle.strat_model.specs.Table.{Row, Table}

-- the row of a version that was not dropped
abbrev pub row_of : Option ℕ → Pairs → Row
row_of parent pairs = record { parent = parent; dropped = false; pairs = pairs }

-- the row of a version that was
abbrev pub dropped_row : Option ℕ → Row
dropped_row parent = record { parent = parent; dropped = true; pairs = [] }

-- a at version 0 and b at its child, after four changes of which three were updates, with a cursor over b
abbrev pub with_a_child : Table
with_a_child = record {
  changes_max = 9;
  versions_max = 9;
  rows = row_of None ((97 ∷ [], 49 ∷ []) ∷ []) ∷ row_of (Some 0) ((98 ∷ [], 49 ∷ []) ∷ []) ∷ [];
  updates = 3;
  changes = 4;
  cursors = record { number = 1; left = (98 ∷ [], 49 ∷ []) ∷ [] } ∷ [];
  next_cursor = 2;
}

-- the same once the child was dropped
abbrev pub with_a_drop : Table
with_a_drop = record with_a_child {
  rows = row_of None ((97 ∷ [], 49 ∷ []) ∷ []) ∷ dropped_row (Some 0) ∷ [];
  changes = 5;
}

-- the table before that, with a child of the child
abbrev pub with_a_grandchild : Table
with_a_grandchild = record with_a_child {
  rows = row_of None [] ∷ row_of (Some 0) [] ∷ row_of (Some 1) [] ∷ [];
}

-- the dropped child, with another child of version 0, which was not dropped
abbrev pub with_two_children : Table
with_two_children = record with_a_drop {
  rows = row_of None [] ∷ dropped_row (Some 0) ∷ row_of (Some 0) [] ∷ [];
}
