use Rattle.def_publish.proofs.GateLemmas.{full_shut, opened_stands}
use Rattle.def_publish.proofs.opening.contents_that_were_read_stand.Goals as goal

pub returns : goal.returns
returns g c = record { stands = λ d. opened_stands _; full = full_shut }
