use Rattle.strat_memory.proofs.MemoryLawLemmas.{oldest_counted, oldest_front, parents_front, marks_front}
use Rattle.strat_memory.proofs.memory_laws.a_seal_has_what_fills_the_region.Goals as goal

pub returns : goal.returns
returns c = record {
  ok = λ h m of. oldest_front h m of;
  len = λ h m of. oldest_counted h m of;
  found = λ h m of. (parents_front h m of, marks_front h m of);
}
