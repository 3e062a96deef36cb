use Rattle.def_recovery.proofs.OpeningLemmas.{read_openable}
use Rattle.def_recovery.proofs.opening.what_is_read_may_be_opened.Goals as goal

pub returns : goal.returns
returns c = read_openable
