use Rattle.strat_model.proofs.StreamLemmas.{one_splitting}
use Rattle.strat_model.proofs.laws.streams_have_one_reading.Goals as goal

pub returns : goal.returns
returns c = one_splitting
