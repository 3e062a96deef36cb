use Rattle.strat_memory.proofs.MemoryLawLemmas.{memory_sealed, oldest_whole, unsealed_below}
use Rattle.strat_memory.proofs.memory_laws.memory_may_be_sealed.Goals as goal

pub returns : goal.returns
returns c = record {
  ok = λ h m of none full. memory_sealed h m of none full;
  found = λ h m of few. oldest_whole h m of few;
  none = λ h m of lt. unsealed_below h m of lt;
}
