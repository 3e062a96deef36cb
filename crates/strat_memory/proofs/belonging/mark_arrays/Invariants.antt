use Rattle.std.proofs.Common.{drop}
use Rattle.def_publish.specs.Occupied.{extents_of}
use Rattle.strat_memory.proofs.OwnLemmas.{Marking}
use Rattle.strat_memory.proofs.belonging.mark_arrays.Given as goal

abbrev pub invariant-loop-array : goal.invariant-loop-array
invariant-loop-array l = Marking l.fn.space l.space (extents_of (drop l.array-index l.arrays)) (extents_of l.arrays)
