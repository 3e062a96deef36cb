use Rattle.strat_loop.proofs.SaidLemmas.{said_so}
use Rattle.strat_loop.proofs.laws.a_run_says_what_its_protocol_does.Goals as goal

pub returns-clause-ok : goal.returns-clause-ok
returns-clause-ok g c = λ mem at after body said says. said_so g.P.Protocol.speech mem at after body said says

pub returns-clause-fault : goal.returns-clause-fault
returns-clause-fault g c = λ mem at done body said says. (says.request, says.asked.asks, says.asked.text)
