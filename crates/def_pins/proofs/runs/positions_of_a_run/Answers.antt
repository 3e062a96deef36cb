use Rattle.std.proofs.Common.{refl}
use Rattle.def_pins.proofs.runs.positions_of_a_run.Goals as goal

pub returns : goal.returns
returns c = record {
  some = λ x after h. refl;
  none = λ x after. refl;
}
