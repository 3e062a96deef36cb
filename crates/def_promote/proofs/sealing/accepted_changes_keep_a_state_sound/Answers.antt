use Rattle.def_promote.proofs.SealedLemmas.{sound_after}
use Rattle.def_promote.proofs.sealing.accepted_changes_keep_a_state_sound.Goals as goal

pub returns : goal.returns
returns c = sound_after
