-- Faults as troubles.
use Rattle.strat_base.specs.declared.failures.Fault.{Fault}
use Rattle.strat_base.specs.declared.failures.Fault.TheVariants as fault
use Rattle.strat_base.specs.declared.failures.Trouble.{Trouble}
use Rattle.strat_base.specs.declared.failures.Trouble.TheVariants.{Device, Damaged}

-- a fault, where memory may run out besides
abbrev pub as_trouble : Fault → Trouble
as_trouble fault.Device = Device
as_trouble (fault.Damaged block) = Damaged block
