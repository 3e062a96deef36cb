-- At most one for each block so far.
use Rattle.std.proofs.Common.{◌≤◌}
use Rattle.strat_extent_tests.proofs.drawn.free_in.Given as goal

abbrev pub invariant-loop-b : goal.invariant-loop-b
invariant-loop-b l = l.count ≤ l.b
