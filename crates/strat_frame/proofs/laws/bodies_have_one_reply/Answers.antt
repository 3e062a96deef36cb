use Rattle.strat_frame.proofs.ReplyLemmas.{one_reply}
use Rattle.strat_frame.proofs.laws.bodies_have_one_reply.Goals as goal

pub returns : goal.returns
returns c = one_reply
