-- Why a cursor told no page, from what went wrong in a reading.
use Rattle.strat_base.specs.declared.failures.Fault.{Fault}
use Rattle.strat_base.specs.declared.failures.Fault.TheVariants as fault
use Rattle.strat_cursor.specs.declared.cursors.NextFault.{NextFault}
use Rattle.strat_cursor.specs.declared.cursors.NextFault.TheVariants.{Device, Damaged}

-- the fault of a reading as one of a cursor
abbrev pub as_next_fault : Fault → NextFault
as_next_fault fault.Device = Device
as_next_fault (fault.Damaged block) = Damaged block
