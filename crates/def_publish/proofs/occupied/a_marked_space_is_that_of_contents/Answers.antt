use Rattle.def_publish.proofs.OccupiedLemmas.{marked_space, uses_both}
use Rattle.def_publish.proofs.occupied.a_marked_space_is_that_of_contents.Goals as goal

pub returns : goal.returns
returns c = record { ok = marked_space; found = uses_both }
