use Rattle.strat_loop.proofs.SaidLemmas.{counts_one}
use Rattle.strat_loop.proofs.laws.a_batch_counts_on.Goals as goal

pub returns : goal.returns
returns g c = record { ok = λ old mid new body other said more first second. counts_one g.P.Protocol.speech old mid new body other said more first second }
