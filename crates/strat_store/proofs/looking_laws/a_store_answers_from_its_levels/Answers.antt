use Rattle.def_recovery.proofs.AskedLemmas.{asked_same}
use Rattle.strat_publish.proofs.LookLawLemmas.{in_order}
use Rattle.strat_store.proofs.looking_laws.a_store_answers_from_its_levels.Goals as goal

pub returns : goal.returns
returns c = record {
  ok = asked_same;
  kept = in_order;
}
