use Rattle.std.proofs.Common.{◌≡◌, ◌-◌, ◌^◌, min, take}
use Rattle.std.specs.List.{sum_by}
use Rattle.strat_memory.proofs.belonging.count_blocks.Given as goal

abbrev pub invariant-loop-extent : goal.invariant-loop-extent
invariant-loop-extent l = l.blocks ≡ min (sum_by (λ x. x.len) (take l.extent-index l.extents)) (2 ^ 64 - 1)
