use Rattle.strat_extent.proofs.TakeLemmas.{TakenSoFar}
use Rattle.strat_extent.proofs.space.Space.take.Given as goal

abbrev pub invariant-loop-left : goal.invariant-loop-left
invariant-loop-left l = TakenSoFar l.fn.self l.fn.n l.taken l.left l.self

abbrev pub decreases-loop-left : goal.decreases-loop-left
decreases-loop-left l = l.left
