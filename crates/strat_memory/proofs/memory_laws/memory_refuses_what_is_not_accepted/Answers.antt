use Rattle.strat_memory.proofs.MemoryLawLemmas.{accepted_same}
use Rattle.strat_memory.proofs.memory_laws.memory_refuses_what_is_not_accepted.Goals as goal

pub returns : goal.returns
returns c = record { ok = accepted_same }
