use Rattle.def_publish.proofs.PartLemmas.{arrays_new}
use Rattle.def_publish.proofs.next.the_arrays_of_a_plan_are_new.Goals as goal

pub returns : goal.returns
returns c = record { ok = arrays_new }
