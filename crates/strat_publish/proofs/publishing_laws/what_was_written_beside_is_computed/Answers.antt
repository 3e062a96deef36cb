use Rattle.strat_publish.proofs.NextContentsLemmas.{computed, numbers_rise}
use Rattle.strat_publish.proofs.publishing_laws.what_was_written_beside_is_computed.Goals as goal

pub returns : goal.returns
returns g c = record {
  ok = λ w u t r old new target made besides others log beside lawful is_log. computed _ _ t r old new target made besides others beside (numbers_rise old.chained.manifest lawful) log is_log;
}
