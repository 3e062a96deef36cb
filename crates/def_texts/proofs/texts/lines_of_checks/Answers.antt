use Rattle.std.proofs.Common.{refl}
use Rattle.std.specs.Fmt.{digits}
use Rattle.strat_base.specs.Tree.{climb}
use Rattle.def_texts.proofs.texts.lines_of_checks.Goals as goal

pub returns : goal.returns
unfolding digits climb
returns c = record { sound = refl; unsound = refl; damaged = refl }
