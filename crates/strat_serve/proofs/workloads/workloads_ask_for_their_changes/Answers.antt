use Rattle.strat_serve.proofs.AskedForLemmas.{asked}
use Rattle.strat_serve.proofs.workloads.workloads_ask_for_their_changes.Goals as goal

pub returns : goal.returns
returns c = asked
