use Rattle.def_publish.proofs.OccupiedLemmas.{taken_beside, joined_beside, given_back, can_give, marked_more}
use Rattle.def_publish.proofs.occupied.blocks_stand_beside_those_of_contents.Goals as goal

pub returns : goal.returns
returns c = record { ok = taken_beside; found = joined_beside; end = given_back; room = can_give; same = marked_more }
