use Rattle.std.proofs.Common.{◌≡◌, take}
use Rattle.strat_check.specs.Children.{lowered_by_items}
use Rattle.strat_check.proofs.children.lower_by_items.Given as goal

abbrev pub invariant-loop-item : goal.invariant-loop-item
invariant-loop-item l = l.least ≡ lowered_by_items l.first l.lowest (take l.item-index l.items)
