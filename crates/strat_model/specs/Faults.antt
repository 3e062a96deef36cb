-- A fault of the store, in what is answered and in how a run ends.
use Rattle.std.specs.Prelude.{Option, Some, None}
use Rattle.strat_base.specs.declared.failures.Fault.{Fault}
use Rattle.strat_base.specs.declared.failures.Fault.TheVariants as fault
use Rattle.strat_model.specs.declared.ended.Ended.{Ended}
use Rattle.strat_model.specs.declared.ended.Ended.TheVariants as ended
use Rattle.strat_model.specs.declared.replies.Refusal.{Refusal}
use Rattle.strat_model.specs.declared.replies.Refusal.TheVariants as why
use Rattle.strat_model.specs.declared.replies.Reply.{Reply}
use Rattle.strat_model.specs.declared.replies.Reply.TheVariants as reply

-- why a command is refused that met a fault
abbrev pub refusal_by : Fault → Refusal
refusal_by fault.Device = why.DeviceFault
refusal_by (fault.Damaged block) = why.Damaged block

-- the fault that a reply tells of, if it tells of one
abbrev pub fault_told : Reply → Option Fault
fault_told (reply.Refused why.DeviceFault) = Some fault.Device
fault_told (reply.Refused (why.Damaged block)) = Some (fault.Damaged block)
fault_told _ = None

-- how a run ends whose store met a fault
abbrev pub broken_by : Fault → Ended
broken_by fault.Device = ended.Device
broken_by (fault.Damaged block) = ended.Damaged block
