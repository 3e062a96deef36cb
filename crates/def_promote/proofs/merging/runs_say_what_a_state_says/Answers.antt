use Rattle.def_promote.proofs.MergingLemmas.{runs_said}
use Rattle.def_promote.proofs.merging.runs_say_what_a_state_says.Goals as goal

pub returns : goal.returns
returns c = λ s taken key u. runs_said s taken key u
