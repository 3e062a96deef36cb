-- The fields of a list of items.
use Rattle.std.specs.Prelude.{vec_capacity}
use Rattle.strat_level.specs.Memtable.{ItemList}
use Rattle.strat_level.specs.declared.view.ZeroView.TheInside.{Inside}

-- the list of these fields
abbrev pub list_seen : Inside → ItemList
list_seen a = record { arena = a.arena; items = a.items.items; capacity = vec_capacity a.items }
