use Rattle.strat_serve.proofs.StreamedLemmas.{whole, few_bytes, as_many}
use Rattle.strat_serve.proofs.workloads.workloads_are_whole_frames.Goals as goal

pub returns : goal.returns
returns c = record { whole = whole; len = few_bytes; bodies = as_many }
