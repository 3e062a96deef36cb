-- Open cursors as a store is seen: their lists are of entries, whatever pool these lie in.
use Rattle.std.specs.Prelude.{◌≡◌, List, [], ◌∷◌, map, option_map}
use Rattle.strat_arena.specs.declared.pool.PoolEntry.{PoolEntry}
use Rattle.strat_base.specs.Entries.{Entry}
use Rattle.strat_base.specs.Tree.{Parents}
use Rattle.def_crash.specs.Image.{Image}
use Rattle.strat_level.specs.Memtable.{entries_held}
use Rattle.strat_model.specs.Pairs.{Pairs}
use Rattle.strat_model.specs.Table.{Cursor}
use Rattle.std.specs.Option.{option_to_list}
use Rattle.strat_cursor.specs.Cursors.{CursorOver, CursorsOver, OpenCursor, CursorsView, pairs_left}
use Rattle.strat_cursor.specs.Ranges.{IsMapSeen}

abbrev pub HeldCursor : Type 0
HeldCursor = CursorOver (List Entry)

abbrev pub HeldCursors : Type 0
HeldCursors = CursorsOver (List Entry)

-- no cursors: the first one will have number 1
abbrev pub no_cursors : HeldCursors
no_cursors = record { opened = []; next = 1; retired = []; room = 0 }

-- a cursor with the entries that its pool gives its lists
abbrev pub cursor_held : List PoolEntry → OpenCursor → HeldCursor
cursor_held pool c = record {
  number = c.number;
  version = c.version;
  zero = entries_held pool c.zero;
  sealed = option_map (entries_held pool) c.sealed;
  arrays = c.arrays;
  from = c.from;
  hi = c.hi;
}

abbrev pub opened_held : List PoolEntry → List OpenCursor → List HeldCursor
opened_held pool cursors = map (cursor_held pool) cursors

abbrev pub cursors_held : List PoolEntry → CursorsView → HeldCursors
cursors_held pool c = record {
  opened = opened_held pool c.opened;
  next = c.next;
  retired = c.retired;
  room = c.room;
}

-- these pairs are the map that a cursor reads in an image
abbrev pub IsMapHeld : Image → Parents → HeldCursor → Pairs → Type 0
IsMapHeld f parents c m =
    IsMapSeen f parents (c.zero ∷ option_to_list c.sealed) c.arrays c.version m

-- a table's cursor has the number of an open one and what that has left of the map that it reads
pub record IsRowOf (f : Image) (parents : Parents) (c : HeldCursor) (row : Cursor) : Type 0 where
  pub pairs : Pairs
  pub reads : IsMapHeld f parents c pairs
  pub row_is : row ≡ record { number = c.number; left = pairs_left pairs c }

-- a table has just these cursors
abbrev pub AreRowsOf : Image → Parents → List HeldCursor → List Cursor → Type 0
AreRowsOf f parents [] [] = Unit {0}
AreRowsOf f parents [] (row ∷ rows) = ⊥
AreRowsOf f parents (c ∷ cursors) [] = ⊥
AreRowsOf f parents (c ∷ cursors) (row ∷ rows) =
    IsRowOf f parents c row × AreRowsOf f parents cursors rows
