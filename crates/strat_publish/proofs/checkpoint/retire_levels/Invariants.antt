use Rattle.std.proofs.Common.{length}
use Rattle.strat_publish.proofs.RetiringLemmas.{RetiresTo}
use Rattle.strat_publish.proofs.checkpoint.retire_levels.Given as goal

abbrev pub invariant-loop-level : goal.invariant-loop-level
invariant-loop-level l = RetiresTo l.target l.fn.memory l.fn.levels l.memory l.levels

abbrev pub decreases-loop-level : goal.decreases-loop-level
decreases-loop-level l = length l.levels
