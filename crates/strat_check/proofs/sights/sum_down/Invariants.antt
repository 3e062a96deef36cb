-- The versions so far were summed.
use Rattle.strat_check.proofs.SightLemmas.{AreSummedBelow}
use Rattle.strat_check.proofs.sights.sum_down.Given as goal

abbrev pub invariant-loop-v : goal.invariant-loop-v
invariant-loop-v l = AreSummedBelow l.parents l.fn.sums l.lost l.sums l.v
