use Rattle.def_state.proofs.LookUpLemmas.{looked_up_read, looked_up_value}
use Rattle.def_state.proofs.look_ups.states_are_looked_up.Goals as goal

pub returns : goal.returns
returns c = record { same = looked_up_read; found = looked_up_value }
