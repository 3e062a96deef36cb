-- What is wrong with a body that is no command.
use Rattle.strat_frame.specs.declared.commands.BodyFault.{BodyFault}
use Rattle.strat_frame.specs.declared.commands.BodyFault.TheVariants as fault
use Rattle.strat_model.specs.declared.replies.Refusal.{Refusal}
use Rattle.strat_model.specs.declared.replies.Refusal.TheVariants as why

-- the refusal that tells a body's fault
abbrev pub refusal_for : BodyFault → Refusal
refusal_for fault.Malformed = why.Malformed
refusal_for fault.KeySize = why.KeySize
refusal_for fault.ValueSize = why.ValueSize
refusal_for fault.ScanSize = why.ScanSize
