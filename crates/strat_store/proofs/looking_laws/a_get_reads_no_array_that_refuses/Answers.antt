use Rattle.strat_store.proofs.LookLemmas.{none_unrefused, unrefused_from}
use Rattle.strat_store.proofs.looking_laws.a_get_reads_no_array_that_refuses.Goals as goal

pub returns-clause-found : goal.returns-clause-found
returns-clause-found c = unrefused_from

pub returns-clause-none : goal.returns-clause-none
returns-clause-none c = none_unrefused
