use Rattle.std.proofs.Common.{refl}
use Rattle.def_check.proofs.choosing.a_level_of_two_arrays_may_be_counted.Goals as goal

pub returns : goal.returns
returns c = record { ok = record { ascending = refl; disjoint = refl } }
