use Rattle.std.proofs.Common.{refl}
use Rattle.std.specs.Fmt.{digits}
use Rattle.def_texts.proofs.texts.summary_of_a_fan.Goals as goal

pub returns : goal.returns
unfolding digits
returns c = refl
