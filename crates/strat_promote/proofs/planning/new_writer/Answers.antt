use Rattle.strat_promote.proofs.PlanningLemmas.{one_new}
use Rattle.strat_promote.proofs.planning.new_writer.Goals as goal

pub returns : goal.returns
returns c = record { ok = c.try_filter.ensures.ok _ (one_new _ _ c.in_ok-writer.ensures.ok) }
