use Rattle.strat_model.proofs.TableLemmas.{clone_has_map}
use Rattle.strat_model.proofs.laws.clones_begin_as_their_parent.Goals as goal

pub returns : goal.returns
returns c = record { ok = clone_has_map }
