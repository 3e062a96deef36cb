use Rattle.def_recovery.proofs.BadLemmas.{no_bad_block}
use Rattle.def_recovery.proofs.opening.sound_disks_have_no_bad_block.Goals as goal

pub returns : goal.returns
returns c = no_bad_block
