use Rattle.def_state.proofs.SpaceLemmas.{stored_twice}
use Rattle.def_state.proofs.laws.a_sound_state_stores_two_entries_per_update.Goals as goal

pub returns : goal.returns
returns c = stored_twice
