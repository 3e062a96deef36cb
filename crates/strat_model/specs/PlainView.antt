-- The table that a plain table keeps.
use Rattle.strat_model.specs.declared.plain_table.PlainTable.TheInside.{Inside}
use Rattle.strat_model.specs.Table.{Table}

-- the table of these fields
abbrev pub table_seen : Inside → Table
table_seen a = record {
  changes_max = a.changes_max;
  versions_max = a.versions_max;
  rows = a.rows.items;
  updates = a.updates;
  changes = a.changes;
  cursors = a.cursors.items;
  next_cursor = a.next_cursor;
}
