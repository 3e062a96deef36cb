use Rattle.std.proofs.Common.{refl}
use Rattle.std.specs.Fmt.{digits}
use Rattle.def_pins.proofs.states.level_and_array_are_told.Goals as goal

pub returns : goal.returns
unfolding digits
returns c = refl
