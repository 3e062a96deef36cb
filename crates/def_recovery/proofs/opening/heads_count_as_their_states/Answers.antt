use Rattle.def_recovery.proofs.HeadLemmas.{counts_said}
use Rattle.def_recovery.proofs.opening.heads_count_as_their_states.Goals as goal

pub returns : goal.returns
returns c = counts_said
