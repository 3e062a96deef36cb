use Rattle.std.proofs.Common.{◌≡◌}
use Rattle.std.specs.List.{fold, range_with_len}
use Rattle.strat_check.specs.Children.{lowered_by_own}
use Rattle.strat_check.proofs.children.lower_by_leads.Given as goal

abbrev pub invariant-loop-v : goal.invariant-loop-v
invariant-loop-v l = l.least ≡ fold (lowered_by_own l.leads.own l.first) l.lowest (range_with_len 0 l.v)
