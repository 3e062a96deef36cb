use Rattle.strat_loop.proofs.SaidLemmas.{run_said, fault_said}
use Rattle.strat_loop.proofs.laws.what_a_run_sent_is_what_its_protocol_says.Goals as goal

pub returns-clause-ok : goal.returns-clause-ok
returns-clause-ok g c = λ d e f t s r. run_said g.P.Protocol.speech r.mem r.start r.transcript.exchanges s.answers r.transcript.after r.is.run

pub returns-clause-fault : goal.returns-clause-fault
returns-clause-fault g c = λ d e f t s said r broken. fault_said g.P.Protocol.speech r.mem r.start r.transcript s.answers s.broken said r.is r.broken_is broken
