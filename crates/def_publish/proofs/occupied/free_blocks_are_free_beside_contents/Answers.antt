use Rattle.def_publish.proofs.OccupiedLemmas.{free_beside}
use Rattle.def_publish.proofs.occupied.free_blocks_are_free_beside_contents.Goals as goal

pub returns : goal.returns
returns c = record { ok = free_beside }
