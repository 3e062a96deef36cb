-- The versions so far were weighed.
use Rattle.strat_check.specs.Sums.{AreWeighed}
use Rattle.strat_check.proofs.sights.weigh.Given as goal

abbrev pub invariant-loop-v : goal.invariant-loop-v
invariant-loop-v l = AreWeighed l.own l.weights l.v
