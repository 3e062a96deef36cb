use Rattle.std.proofs.Common.{◌≡◌, ◌-◌, ◌^◌, min, take}
use Rattle.std.specs.List.{sum_by}
use Rattle.strat_memory.proofs.belonging.leads_of_levels.Given as goal

abbrev pub invariant-loop-level : goal.invariant-loop-level
invariant-loop-level l = l.leads ≡ min (sum_by (λ level. sum_by (λ a. a.leads) level.arrays) (take l.level-index l.levels)) (2 ^ 64 - 1)
