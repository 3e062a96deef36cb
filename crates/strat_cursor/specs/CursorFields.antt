-- The fields of a cursor.
use Rattle.std.specs.Prelude.{◌≤◌, option_map, vec_capacity, IfSome}
use Rattle.strat_cursor.specs.Cursors.{OpenCursor}
use Rattle.strat_cursor.specs.declared.cursor.Cursor.TheInside.{Inside}

-- the cursor of these fields
abbrev pub cursor_seen : Inside → OpenCursor
cursor_seen a = record {
  number = a.number;
  version = a.version;
  zero = a.zero;
  sealed = a.sealed;
  arrays = a.arrays;
  from = option_map (λ bound. bound.items) a.from;
  hi = a.hi.items;
}

-- there is room for the key after any key
abbrev pub HasBoundRoom : Inside → Type 0
HasBoundRoom a = IfSome a.from (λ bound. 256 ≤ vec_capacity bound)
