use Rattle.def_publish.proofs.OccupiedLemmas.{own_blocks}
use Rattle.def_publish.proofs.occupied.used_blocks_are_their_own.Goals as goal

pub returns : goal.returns
returns c = record { ok = own_blocks }
