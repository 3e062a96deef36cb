use Rattle.strat_store.proofs.FilteringLemmas.{none_of, state_filtered}
use Rattle.strat_store.proofs.looking_laws.a_get_that_asks_filters_finds_the_same.Goals as goal

pub returns : goal.returns
returns c = record {
  key = none_of;
  same = state_filtered;
}
