use Rattle.strat_serve.proofs.StreamedLemmas.{front_of, all_of_it}
use Rattle.strat_serve.proofs.workloads.fronts_of_workloads_are_frames.Goals as goal

pub returns : goal.returns
returns c = record { front = front_of; all = all_of_it }
