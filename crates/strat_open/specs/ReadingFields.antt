-- The fields of a store that was read and is not open.
use Rattle.def_recovery.specs.Head.{Head}
use Rattle.strat_memory.specs.Held.{IsConsistent}
use Rattle.strat_memory.specs.RecoveredFields.{head_recovered, held_of, empty_cache}
use Rattle.strat_open.specs.declared.reading.Reading.TheInside.{Inside}

-- the head of these fields
abbrev pub head_read : Inside → Head
head_read r = head_recovered r.found

-- they are what an opening may find
abbrev pub IsWholeReading : Inside → Type 0
IsWholeReading r = IsConsistent (held_of r.found (empty_cache 0))
