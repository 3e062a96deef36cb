use Rattle.std.proofs.Common.{ap}
use Rattle.strat_model.specs.Answer.{Answer}
use Rattle.strat_store.specs.Applying.{may_write}
use Rattle.strat_follow.proofs.MadeLemmas.{run_made}
use Rattle.strat_follow.proofs.laws.a_run_that_leads_sends_its_changes.Goals as goal

pub returns-clause-ok : goal.returns-clause-ok
returns-clause-ok c = λ mem at after xs answers run. let m = run_made mem at xs answers after run in (m.made, m.are_made, m.sent, m.takes, m.table)

pub returns-clause-none : goal.returns-clause-none
returns-clause-none c = λ body said changes is. (is.none, (is.cause, is.refused))

pub returns-clause-still : goal.returns-clause-still
returns-clause-still c = λ body said changes is other request asks change. ap (λ (a : Answer). may_write a.reply) is.answer
