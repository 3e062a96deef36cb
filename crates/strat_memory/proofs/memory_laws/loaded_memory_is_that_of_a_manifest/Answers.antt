use Rattle.strat_memory.proofs.MemoryLawLemmas.{memory_loaded}
use Rattle.strat_memory.proofs.memory_laws.loaded_memory_is_that_of_a_manifest.Goals as goal

pub returns : goal.returns
returns c = record { ok = memory_loaded }
