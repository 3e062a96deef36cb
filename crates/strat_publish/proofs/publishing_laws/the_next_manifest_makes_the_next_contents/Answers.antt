use Rattle.strat_publish.proofs.NextContentsLemmas.{after_next, numbers_rise}
use Rattle.strat_publish.proofs.publishing_laws.the_next_manifest_makes_the_next_contents.Goals as goal

pub returns : goal.returns
returns c = record {
  ok = λ old m target made levels first size blocks of sound lawful. after_next old m target made levels first size blocks of sound (numbers_rise old.chained.manifest lawful);
}
