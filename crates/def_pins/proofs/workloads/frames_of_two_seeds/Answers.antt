use Rattle.std.proofs.Common.{refl}
use Rattle.std.specs.Fmt.{digits}
use Rattle.strat_base.specs.Numbers.{be}
use Rattle.def_texts.specs.Workload.{changes_from}
use Rattle.def_pins.proofs.workloads.frames_of_two_seeds.Goals as goal

pub returns : goal.returns
unfolding digits be changes_from
returns c = record { none = refl; one = refl; two = refl }
