-- The items from i on are linked.
use Rattle.std.proofs.Common.{◌≤◌, length}
use Rattle.strat_split.specs.Chains.{IsLinked}
use Rattle.strat_split.specs.Shares.{labels_in}
use Rattle.strat_split.proofs.hand.link_leads.Given as goal

abbrev pub invariant-loop-i : goal.invariant-loop-i
invariant-loop-i l = record {
  within : l.i ≤ length l.hand.items.now;
  linked : IsLinked (labels_in l.hand) l.heads l.nexts l.i;
}

abbrev pub decreases-loop-i : goal.decreases-loop-i
decreases-loop-i l = l.i
