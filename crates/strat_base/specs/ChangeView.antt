-- Changes in memory, as changes.
use Rattle.strat_base.specs.declared.changes.Change.{Change as Borrowed}
use Rattle.strat_base.specs.declared.changes.Change.TheVariants as borrowed
use Rattle.strat_base.specs.declared.changes.Kind.{Kind}
use Rattle.strat_base.specs.declared.changes.Kind.TheVariants as kind
use Rattle.strat_base.specs.Change.{Change, Put, Delete, Clone, DropVersion}

-- a change, wherever its bytes lie
abbrev pub change_of : Borrowed → Change
change_of (borrowed.Put version key value) = Put version key.now value.now
change_of (borrowed.Delete version key) = Delete version key.now
change_of (borrowed.Clone version) = Clone version
change_of (borrowed.DropVersion version) = DropVersion version

-- a change that has its bytes itself
abbrev pub owned_of : Kind → Change
owned_of (kind.Put version key value) = Put version key.items value.items
owned_of (kind.Delete version key) = Delete version key.items
owned_of (kind.Clone version) = Clone version
owned_of (kind.DropVersion version) = DropVersion version
