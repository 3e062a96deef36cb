use Rattle.strat_memory.proofs.TagLemmas.{own_from, not_own_tags}
use Rattle.strat_memory.proofs.belonging_laws.disjoint_tags_are_own_versions.Goals as goal

pub returns : goal.returns
returns c = record {
  ok = own_from;
  none = not_own_tags;
}
