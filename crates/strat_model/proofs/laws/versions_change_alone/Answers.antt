use Rattle.strat_model.proofs.TableLemmas.{step_leaves_others, step_leaves_frozen}
use Rattle.strat_model.proofs.laws.versions_change_alone.Goals as goal

pub returns : goal.returns
returns c = record { same = step_leaves_others; kept = step_leaves_frozen }
