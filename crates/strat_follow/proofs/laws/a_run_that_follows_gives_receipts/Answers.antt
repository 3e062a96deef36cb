use Rattle.std.proofs.Common.{ap}
use Rattle.strat_model.specs.Answer.{Answer}
use Rattle.strat_store.specs.Applying.{may_write}
use Rattle.strat_follow.proofs.ReceiptLemmas.{broken_so, run_received}
use Rattle.strat_follow.proofs.laws.a_run_that_follows_gives_receipts.Goals as goal

pub returns-clause-ok : goal.returns-clause-ok
returns-clause-ok c = λ mem at after xs answers run. run_received mem at xs answers after run

pub returns-clause-fault : goal.returns-clause-fault
returns-clause-fault c = λ mem at done body said by. let off = broken_so mem at body said done by in (off.0, off.1, off.2)

pub returns-clause-none : goal.returns-clause-none
returns-clause-none c = λ changes body said by. (by.receipt, by.tag, by.sent, by.answer)

pub returns-clause-still : goal.returns-clause-still
returns-clause-still c = λ changes body said by other request asks change. ap (λ (a : Answer). may_write a.reply) by.answer
