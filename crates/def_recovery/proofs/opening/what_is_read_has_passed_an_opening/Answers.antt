use Rattle.def_recovery.proofs.PassedLemmas.{read_passes}
use Rattle.def_recovery.proofs.opening.what_is_read_has_passed_an_opening.Goals as goal

pub returns : goal.returns
returns c = read_passes
