use Rattle.std.proofs.Common.{take}
use Rattle.strat_level.specs.Index.{IsIndexOf}
use Rattle.strat_level.proofs.index.index_of.Given as goal

abbrev pub invariant-loop-i : goal.invariant-loop-i
invariant-loop-i l = IsIndexOf l.index.items (take l.i l.arrays)
