-- The walk so far.
use Rattle.std.proofs.Common.{◌≤◌}
use Rattle.strat_tree.proofs.AncestorLemmas.{IsWalk}
use Rattle.strat_tree.proofs.tree.Tree.below.Given as goal

abbrev pub invariant-loop-i : goal.invariant-loop-i
invariant-loop-i l = (l.i ≤ 14) × IsWalk l.self.parents l.v l.h l.at l.i

abbrev pub decreases-loop-i : goal.decreases-loop-i
decreases-loop-i l = l.i
