use Rattle.std.proofs.Common.{length}
use Rattle.strat_publish.proofs.RetiringLemmas.{Retires}
use Rattle.strat_publish.proofs.checkpoint.retire_arrays.Given as goal

abbrev pub invariant-loop-desc : goal.invariant-loop-desc
invariant-loop-desc l = Retires l.fn.memory l.fn.arrays l.memory l.arrays

abbrev pub decreases-loop-desc : goal.decreases-loop-desc
decreases-loop-desc l = length l.arrays
