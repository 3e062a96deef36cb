use Rattle.std.proofs.Common.{refl}
use Rattle.def_bytes.specs.SuperBlock.{zeros}
use Rattle.strat_open.proofs.new_manifest.write_manifest.Goals as goal

pub spell-requires-clause-none : goal.spell-requires-clause-none
unfolding zeros
spell-requires-clause-none g c = refl
