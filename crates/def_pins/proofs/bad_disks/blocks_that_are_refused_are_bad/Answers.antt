use Rattle.def_pins.proofs.BadDiskLemmas.{refused_recovers, one_is_bad}
use Rattle.def_pins.proofs.bad_disks.blocks_that_are_refused_are_bad.Goals as goal

pub returns : goal.returns
returns c = record { found = refused_recovers; ok = one_is_bad }
