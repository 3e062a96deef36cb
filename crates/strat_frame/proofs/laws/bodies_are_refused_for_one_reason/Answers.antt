use Rattle.strat_frame.proofs.CommandLemmas.{one_refusal, no_refusal}
use Rattle.strat_frame.proofs.laws.bodies_are_refused_for_one_reason.Goals as goal

pub returns-clause-ok : goal.returns-clause-ok
returns-clause-ok c = one_refusal

pub returns-clause-none : goal.returns-clause-none
returns-clause-none c = no_refusal
