use Rattle.std.proofs.Common.{◌≡◌, ◌++◌, drop, replicate}
use Rattle.strat_memory.specs.Filters.{no_filters}
use Rattle.strat_memory.proofs.filters.clear.Given as goal

abbrev pub invariant-loop-i : goal.invariant-loop-i
invariant-loop-i l = l.levels ≡ replicate l.i no_filters ++ drop l.i l.fn.levels
