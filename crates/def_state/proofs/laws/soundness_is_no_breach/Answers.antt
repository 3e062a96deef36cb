use Rattle.def_state.proofs.BreachLemmas.{sound_from_none, sound_none}
use Rattle.def_state.proofs.laws.soundness_is_no_breach.Goals as goal

pub returns : goal.returns
returns c = λ s. (λ sound. (sound.formed, sound_none s sound), λ both. sound_from_none s both.0 both.1)
