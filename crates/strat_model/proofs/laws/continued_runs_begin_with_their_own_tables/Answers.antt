use Rattle.strat_model.proofs.BatchLemmas.{few_tables, over_nothing, same_front, unbroken_tables}
use Rattle.strat_model.proofs.laws.continued_runs_begin_with_their_own_tables.Goals as goal

pub returns : goal.returns
returns c = record { none = over_nothing; same = unbroken_tables; front = same_front; few = few_tables }
