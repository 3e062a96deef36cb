use Rattle.def_state.proofs.LevelLemmas.{ordered_single}
use Rattle.def_state.proofs.laws.ordered_arrays_have_single_leads.Goals as goal

pub returns : goal.returns
returns c = ordered_single
