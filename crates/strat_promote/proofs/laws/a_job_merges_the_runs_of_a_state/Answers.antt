use Rattle.std.proofs.Common.{take}
use Rattle.strat_promote.proofs.ReplacingLemmas.{runs_same, arrays_there}
use Rattle.strat_promote.proofs.laws.a_job_merges_the_runs_of_a_state.Goals as goal

pub returns : goal.returns
returns c = record {
  runs = λ f s taken kept descs job sound levels on zero arrays. runs_same f s taken kept descs job sound levels on zero arrays;
  arrays = λ levels target. arrays_there (take target levels);
}
