use Rattle.def_check.proofs.FirstLemmas.{child_below}
use Rattle.def_check.proofs.firsts.the_first_child_tells_of_children_below.Goals as goal

pub returns : goal.returns
returns c = λ s h v known. child_below s h v known
