use Rattle.std.proofs.Common.{◌+◌, ◌≤◌}
use Rattle.strat_model_tests.proofs.tables.follows.Given as goal

abbrev pub invariant-loop-line : goal.invariant-loop-line
invariant-loop-line l = l.table.next_cursor ≤ l.line-index + 1
