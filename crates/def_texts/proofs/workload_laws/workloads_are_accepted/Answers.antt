use Rattle.def_texts.proofs.WorkloadLemmas.{lengths, accepted}
use Rattle.def_texts.proofs.workload_laws.workloads_are_accepted.Goals as goal

pub returns : goal.returns
returns c = record { len = lengths; ok = accepted }
