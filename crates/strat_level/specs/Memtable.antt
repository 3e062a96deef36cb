-- Level 0 in memory: items by key and version, whose keys and values lie in an arena of a pool.
use Rattle.std.specs.Prelude.{ℕ, ◌<◌, ◌≤◌, ◌+◌, ◌*◌, List, IsTrue}
use Rattle.std.specs.List.{list_all}
use Rattle.strat_base.specs.declared.limits.TheConstants.{KEY_MAX, VALUE_MAX}
use Rattle.strat_base.specs.Entries.{Entry, is_ascending}
use Rattle.strat_base.specs.EntryBytes.{fits_fields}
use Rattle.strat_arena.specs.Items.{entries_of, have_pairs}
use Rattle.strat_arena.specs.PoolView.{arena_at, shares_at}
use Rattle.strat_arena.specs.declared.items.Item.{Item}
use Rattle.strat_arena.specs.declared.pool.PoolEntry.{PoolEntry}

-- items, the number of their arena, and how many there may be without taking memory
pub record ItemList : Type 0 where
  pub arena : ℕ
  pub items : List Item
  pub capacity : ℕ

-- items, and for how many more their arena and their list have room
pub record Memtable : Type 0 where
  pub list : ItemList
  pub spare : ℕ

-- the entries of a list of items, as their pool has them
abbrev pub entries_held : List PoolEntry → ItemList → List Entry
entries_held pool list = entries_of (arena_at pool list.arena).pairs list.items

-- a list of items stands in a pool: its arena is there, each item has a pair in it, and the entries
-- are in order and of lawful sizes
pub record ListStands (pool : List PoolEntry) (list : ItemList) : Type 0 where
  pub shared : 0 < shares_at pool list.arena
  pub slots : IsTrue (have_pairs (arena_at pool list.arena).pairs list.items)
  pub ascending : IsTrue (is_ascending (entries_held pool list))
  pub lawful : IsTrue (list_all fits_fields (entries_held pool list))

-- level 0 stands in a pool: its items do, and its arena has room for so many more of the largest pairs
pub record MemtableStands (pool : List PoolEntry) (zero : Memtable) : Type 0 where
  pub list : ListStands pool zero.list
  pub pairs_room : zero.spare ≤ (arena_at pool zero.list.arena).spare_pairs
  pub bytes_room : (KEY_MAX + VALUE_MAX) * zero.spare ≤ (arena_at pool zero.list.arena).spare_bytes
