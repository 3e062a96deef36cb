use Rattle.strat_model.proofs.MapLemmas.{value_of_unset_here, value_of_unset_other}
use Rattle.strat_model.proofs.laws.deletes_change_one_key.Goals as goal

pub returns : goal.returns
returns c = record { none = value_of_unset_here; same = value_of_unset_other }
