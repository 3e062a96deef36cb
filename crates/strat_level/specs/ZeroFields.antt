-- The fields of level 0.
use Rattle.std.specs.Prelude.{◌≤◌, ◌+◌, length}
use Rattle.strat_level.specs.Memtable.{Memtable}
use Rattle.strat_level.specs.declared.zero.Zero.TheInside.{Inside}

-- level 0 of these fields
abbrev pub memtable_seen : Inside → Memtable
memtable_seen a = record { list = a.list; spare = a.spare }

-- the list has room for so many more items
abbrev pub HasItemRoom : Inside → Type 0
HasItemRoom a = length a.list.items + a.spare ≤ a.list.capacity
