use Rattle.std.proofs.Common.{◌≡◌, ◌-◌, ◌^◌, min, take}
use Rattle.strat_check.specs.Fit.{blocks_of_levels}
use Rattle.strat_check.proofs.fit.count_levels.Given as goal

abbrev pub invariant-loop-level : goal.invariant-loop-level
invariant-loop-level l = l.blocks ≡ min (blocks_of_levels (take l.level-index l.levels)) (2 ^ 64 - 1)
