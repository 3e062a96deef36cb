use Rattle.std.proofs.Common.{◌≡◌, ◌-◌, ◌^◌, min, take}
use Rattle.std.specs.List.{sum_by}
use Rattle.strat_check.proofs.fit.count_extents.Given as goal

abbrev pub invariant-loop-x : goal.invariant-loop-x
invariant-loop-x l = l.blocks ≡ min (sum_by (λ x. x.len) (take l.x-index l.extents)) (2 ^ 64 - 1)
