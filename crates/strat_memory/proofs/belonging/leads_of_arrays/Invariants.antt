use Rattle.std.proofs.Common.{◌≡◌, ◌-◌, ◌^◌, min, take}
use Rattle.std.specs.List.{sum_by}
use Rattle.strat_memory.proofs.belonging.leads_of_arrays.Given as goal

abbrev pub invariant-loop-array : goal.invariant-loop-array
invariant-loop-array l = l.leads ≡ min (sum_by (λ a. a.leads) (take l.array-index l.arrays)) (2 ^ 64 - 1)
