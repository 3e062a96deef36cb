use Rattle.std.proofs.Common.{◌≡◌, take}
use Rattle.strat_check.specs.MarkedGroups.{leads_among}
use Rattle.strat_check.proofs.marked_group.take_leads.Given as goal

abbrev pub invariant-loop-item : goal.invariant-loop-item
invariant-loop-item l = l.versions.items ≡ leads_among l.owners (take l.item-index l.items)
