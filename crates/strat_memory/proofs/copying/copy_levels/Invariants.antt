use Rattle.std.proofs.Common.{◌≡◌, take}
use Rattle.strat_memory.proofs.copying.copy_levels.Given as goal

abbrev pub invariant-loop-level : goal.invariant-loop-level
invariant-loop-level l = l.copy ≡ take l.level-index l.levels
