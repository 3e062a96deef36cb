use Rattle.std.proofs.Common.{◌≡◌, drop}
use Rattle.std.specs.List.{list_all}
use Rattle.strat_check.specs.Fit.{ends_within}
use Rattle.strat_check.proofs.fit.all_end_within.Given as goal

abbrev pub invariant-loop-x : goal.invariant-loop-x
invariant-loop-x l = list_all ends_within (drop l.x-index l.extents) ≡ list_all ends_within l.extents
