use Rattle.std.proofs.Common.{drop}
use Rattle.def_publish.specs.Occupied.{arrays_in, extents_of}
use Rattle.strat_memory.proofs.OwnLemmas.{Marking}
use Rattle.strat_memory.proofs.belonging.mark_levels.Given as goal

abbrev pub invariant-loop-level : goal.invariant-loop-level
invariant-loop-level l = Marking l.fn.space l.space (extents_of (arrays_in (drop l.level-index l.levels))) (extents_of (arrays_in l.levels))
