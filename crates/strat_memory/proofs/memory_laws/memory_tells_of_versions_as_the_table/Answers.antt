use Rattle.strat_memory.proofs.MemoryLawLemmas.{version_told_with, store_told_with, version_unknown_with, key_unknown_with}
use Rattle.strat_memory.proofs.memory_laws.memory_tells_of_versions_as_the_table.Goals as goal

pub returns : goal.returns
returns c = record {
  found = λ f h s m rows n v read of here. version_told_with f h s m read of rows n v here;
  ok = λ f h s m rows n read of same. store_told_with f h s m read of rows n same;
  none = λ f h s m rows n v read of off. version_unknown_with f h s m read of rows n v off;
  err = λ f h s m rows n v key read of off. key_unknown_with f h s m read of rows n v key off;
}
