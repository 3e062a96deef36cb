use Rattle.def_pins.proofs.BadDiskLemmas.{uncounted_opens, seven_is_bad, seven_unnamed, chain_has_none}
use Rattle.def_pins.proofs.bad_disks.blocks_that_are_none_are_bad.Goals as goal

pub returns : goal.returns
returns c = record { found = uncounted_opens; ok = seven_is_bad; named = seven_unnamed; none = chain_has_none }
