use Rattle.std.proofs.Common.{◌≡◌, ◌-◌, ◌^◌, min, take}
use Rattle.std.specs.List.{sum_by}
use Rattle.strat_promote.proofs.edges.count_entries.Given as goal

abbrev pub invariant-loop-array : goal.invariant-loop-array
invariant-loop-array l =
    l.entries ≡ min (sum_by (λ a. a.entries) (take l.array-index l.arrays)) (2 ^ 64 - 1)
