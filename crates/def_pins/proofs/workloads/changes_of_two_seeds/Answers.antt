use Rattle.std.proofs.Common.{refl}
use Rattle.std.specs.Fmt.{digits}
use Rattle.def_texts.specs.Workload.{changes_from}
use Rattle.def_pins.proofs.workloads.changes_of_two_seeds.Goals as goal

pub returns : goal.returns
unfolding digits changes_from
returns c = record { one = refl; other = refl }
