use Rattle.strat_model.proofs.MapLemmas.{same_map}
use Rattle.strat_model.proofs.laws.maps_are_their_look_ups.Goals as goal

pub returns : goal.returns
returns c = record { ok = same_map }
