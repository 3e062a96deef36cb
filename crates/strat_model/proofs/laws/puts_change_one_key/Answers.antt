use Rattle.strat_model.proofs.MapLemmas.{value_of_set_here, value_of_set_other}
use Rattle.strat_model.proofs.laws.puts_change_one_key.Goals as goal

pub returns : goal.returns
returns c = record { found = value_of_set_here; same = value_of_set_other }
