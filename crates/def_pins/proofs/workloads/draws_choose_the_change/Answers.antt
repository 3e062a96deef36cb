use Rattle.std.proofs.Common.{refl}
use Rattle.std.specs.Fmt.{digits}
use Rattle.def_pins.proofs.workloads.draws_choose_the_change.Goals as goal

pub returns : goal.returns
unfolding digits
returns c = record { any = refl; newest = refl; delete = (refl, refl); put = (refl, refl); last = (refl, refl); full = (refl, refl) }
