use Rattle.std.proofs.Common.{arith}
use Rattle.strat_frame.proofs.ReplyLemmas.{is_found, is_none}
use Rattle.strat_frame.proofs.replies.parse_reply.Goals as goal

pub returns-clause-found : goal.returns-clause-found
returns-clause-found c = is_found c.args.body.now c.reply_of.result c.reply_of.new.pairs (λ i. omega (arith, c.type_inv.body i)) c.reply_of.ensures.ok

pub returns-clause-none : goal.returns-clause-none
returns-clause-none c = is_none c.args.body.now c.reply_of.result c.reply_of.new.pairs c.reply_of.ensures.ok
