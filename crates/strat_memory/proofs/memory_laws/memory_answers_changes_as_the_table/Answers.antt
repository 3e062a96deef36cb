use Rattle.strat_memory.proofs.MemoryLawLemmas.{change_refused_with, change_answered_with, change_taken}
use Rattle.strat_memory.proofs.memory_laws.memory_answers_changes_as_the_table.Goals as goal

pub returns : goal.returns
returns c = record {
  err = λ f h s m rows n change r read of e. change_refused_with f h s m read of rows n change r e;
  ok = λ f h s m rows n change read of e. change_answered_with f h s m read of rows n change e;
  found = λ f h s m change read of e. change_taken f h s m read of change e;
}
