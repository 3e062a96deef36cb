use Rattle.strat_store.proofs.BadLemmas.{damaged_bad}
use Rattle.strat_store.proofs.damage_laws.what_is_called_damaged_is_bad.Goals as goal

pub returns : goal.returns
returns c = record { ok = damaged_bad }
