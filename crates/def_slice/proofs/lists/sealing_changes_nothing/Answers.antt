use Rattle.def_slice.proofs.ListLemmas.{seal}
use Rattle.def_slice.proofs.lists.sealing_changes_nothing.Goals as goal

pub returns : goal.returns
returns c = seal
