-- Why an opening gave up.
use Rattle.strat_open.specs.declared.attach_fault.AttachFault.{AttachFault}
use Rattle.strat_open.specs.declared.attach_fault.AttachFault.TheVariants.{NotAStore, Device, Damaged, NoMemory}
use Rattle.strat_base.specs.declared.failures.Fault.{Fault}
use Rattle.strat_base.specs.declared.failures.Fault.TheVariants as fault
use Rattle.strat_base.specs.declared.failures.Trouble.{Trouble}
use Rattle.strat_base.specs.declared.failures.Trouble.TheVariants as trouble
use Rattle.strat_model.specs.declared.ended.Ended.{Ended}
use Rattle.strat_model.specs.declared.ended.Ended.TheVariants as ended

-- a fault of a disk, as one of an opening
abbrev pub of_fault : Fault → AttachFault
of_fault fault.Device = Device
of_fault (fault.Damaged block) = Damaged block

-- a trouble with a disk, as one of an opening
abbrev pub of_trouble : Trouble → AttachFault
of_trouble trouble.NoMemory = NoMemory
of_trouble trouble.Device = Device
of_trouble (trouble.Damaged block) = Damaged block

-- how a run ends whose opening gave up so
abbrev pub ended_for : AttachFault → Ended
ended_for NotAStore = ended.NotAStore
ended_for Device = ended.Device
ended_for (Damaged block) = ended.Damaged block
ended_for NoMemory = ended.NoMemory
