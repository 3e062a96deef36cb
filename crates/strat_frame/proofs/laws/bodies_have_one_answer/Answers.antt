use Rattle.strat_frame.proofs.CommandLemmas.{one_answer}
use Rattle.strat_frame.proofs.laws.bodies_have_one_answer.Goals as goal

pub returns : goal.returns
returns c = one_answer
