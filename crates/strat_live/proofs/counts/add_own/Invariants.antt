use Rattle.std.proofs.Common.{◌≡◌, take}
use Rattle.strat_live.specs.Counting.{item_versions, tallied}
use Rattle.strat_live.proofs.counts.add_own.Given as goal

abbrev pub invariant-loop-item : goal.invariant-loop-item
invariant-loop-item l = l.own ≡ tallied l.fn.own (item_versions (take l.item-index l.group))
