use Rattle.strat_memory.proofs.MemoryLawLemmas.{key_asked}
use Rattle.strat_memory.proofs.memory_laws.memory_is_asked_as_the_table.Goals as goal

pub returns : goal.returns
returns c = record { ok = λ f h s m v key read of sound here. key_asked f h s m read of sound v key here }
