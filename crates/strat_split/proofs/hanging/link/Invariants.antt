-- The parts from q on are linked.
use Rattle.std.proofs.Common.{◌≤◌, length}
use Rattle.strat_split.specs.Chains.{IsLinked}
use Rattle.strat_split.proofs.hanging.link.Given as goal

abbrev pub invariant-loop-q : goal.invariant-loop-q
invariant-loop-q l = record {
  within : l.q ≤ length l.carriers;
  linked : IsLinked l.carriers l.firsts l.nexts l.q;
}

abbrev pub decreases-loop-q : goal.decreases-loop-q
decreases-loop-q l = l.q
