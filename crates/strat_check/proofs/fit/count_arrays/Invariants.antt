use Rattle.std.proofs.Common.{◌≡◌, ◌-◌, ◌^◌, min, take}
use Rattle.std.specs.List.{sum_by}
use Rattle.strat_check.proofs.fit.count_arrays.Given as goal

abbrev pub invariant-loop-array : goal.invariant-loop-array
invariant-loop-array l = l.blocks ≡ min (sum_by (λ a. sum_by (λ x. x.len) a.extents) (take l.array-index l.arrays)) (2 ^ 64 - 1)
