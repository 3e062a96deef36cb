use Rattle.def_promote.proofs.CompactedLemmas.{room_for_all}
use Rattle.def_promote.proofs.compacting.the_depth_has_room_for_all.Goals as goal

pub returns : goal.returns
returns c = λ s sound mem honest few. room_for_all s sound mem honest few
