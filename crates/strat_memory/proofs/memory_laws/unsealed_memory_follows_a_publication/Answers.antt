use Rattle.strat_memory.proofs.MemoryLawLemmas.{memory_unsealed}
use Rattle.strat_memory.proofs.memory_laws.unsealed_memory_follows_a_publication.Goals as goal

pub returns : goal.returns
returns c = record { ok = memory_unsealed }
