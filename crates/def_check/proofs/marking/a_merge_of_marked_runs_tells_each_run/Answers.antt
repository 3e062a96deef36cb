use Rattle.def_check.proofs.MarkedLemmas.{run_told}
use Rattle.def_check.proofs.marking.a_merge_of_marked_runs_tells_each_run.Goals as goal

pub returns : goal.returns
returns c = λ runs groups i run few ascending merges is. run_told runs groups few ascending merges i run is
