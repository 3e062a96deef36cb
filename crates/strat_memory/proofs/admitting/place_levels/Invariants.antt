use Rattle.std.proofs.Common.{length}
use Rattle.strat_memory.proofs.PlacingLemmas.{IsPlacing}
use Rattle.strat_memory.proofs.admitting.place_levels.Given as goal

abbrev pub invariant-loop-desc : goal.invariant-loop-desc
invariant-loop-desc l = IsPlacing l.fn.listed l.left l.levels

abbrev pub decreases-loop-desc : goal.decreases-loop-desc
decreases-loop-desc l = length l.left
