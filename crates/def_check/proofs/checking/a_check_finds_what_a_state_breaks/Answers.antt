use Rattle.def_check.proofs.CheckedLemmas.{checked_state, state_checked, found_sound, sound_found}
use Rattle.def_check.proofs.checking.a_check_finds_what_a_state_breaks.Goals as goal

pub returns : goal.returns
returns c = record {
  sound = λ c. (λ e. found_sound c e, λ at. sound_found c at.0 at.1 at.2);
  found = λ c found e. checked_state c found e;
  same = λ c s e. state_checked c s e;
}
