use Rattle.strat_memory.proofs.MemoryLawLemmas.{key_found}
use Rattle.strat_memory.proofs.memory_laws.memory_finds_what_level_zero_says.Goals as goal

pub returns : goal.returns
returns c = record { same = λ f h s m v key read of sound none. key_found f h s m read of sound none v key }
