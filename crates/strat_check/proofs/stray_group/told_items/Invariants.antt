use Rattle.std.proofs.Common.{◌≡◌, take}
use Rattle.strat_check.specs.StrayGroups.{items_told}
use Rattle.strat_check.proofs.stray_group.told_items.Given as goal

abbrev pub invariant-loop-item : goal.invariant-loop-item
invariant-loop-item l = l.told.items ≡ items_told l.place (take l.item-index l.items)
