-- What every table keeps, whatever commands it is given.
use Rattle.std.specs.Prelude.{◌≡◌, ◌≤◌, ℕ, true, List, [], length, Option, Some, None}
use Rattle.std.specs.List.{All}
use Rattle.std.specs.List.Sorted.{IsStrictlySortedBy}
use Rattle.std.specs.Map.{keys_of}
use Rattle.strat_base.specs.declared.limits.TheConstants.{CHANGES_MAX, VERSIONS_MAX, CURSORS_MAX}
use Rattle.strat_base.specs.Marks.{ArePruned}
use Rattle.strat_base.specs.Order.{key_cmp}
use Rattle.strat_base.specs.Tree.{IsTree}
use Rattle.strat_model.specs.Pairs.{Pairs}
use Rattle.strat_model.specs.Request.{Request, Put, Delete, DropVersion}
use Rattle.strat_model.specs.Table.{Row, Cursor, Table, parents_of, marks_in}

-- pairs are a map: their keys ascend strictly
abbrev pub IsMap : Pairs → Type 0
IsMap pairs = IsStrictlySortedBy key_cmp (keys_of pairs)

-- each version that was dropped has the empty map
abbrev pub AreEmptied : List Row → Type 0
AreEmptied rows = All {X = Row} (λ row. row.dropped ≡ true → row.pairs ≡ []) rows

-- a table is within its limits, and its limits within those of any table
pub record IsWithin (t : Table) : Type 0 where
  pub changes_max : t.changes_max ≤ CHANGES_MAX
  pub versions_max : t.versions_max ≤ VERSIONS_MAX
  pub rows : length t.rows ≤ t.versions_max
  pub changes : t.changes ≤ t.changes_max
  pub updates : t.updates ≤ t.changes
  pub cursors : length t.cursors ≤ CURSORS_MAX

-- a table has maps, a tree of versions in which all below a dropped one are dropped, and no more of anything than it may have
pub record IsTable (t : Table) : Type 0 where
  pub maps : All {X = Row} (λ row. IsMap row.pairs) t.rows
  pub cursors : All {X = Cursor} (λ c. IsMap c.left) t.cursors
  pub tree : IsTree (parents_of t)
  pub pruned : ArePruned (parents_of t) (marks_in t)
  pub emptied : AreEmptied t.rows
  pub within : IsWithin t

-- the version that a command updates, if it updates one
abbrev pub updated : Request → Option ℕ
updated (Put version key value) = Some version
updated (Delete version key) = Some version
updated (DropVersion version) = Some version
updated _ = None
