use Rattle.std.proofs.Common.{◌+◌, ◌≤◌}
use Rattle.strat_serve_tests.proofs.scripts.all_accepted.Given as goal

abbrev pub invariant-loop-n : goal.invariant-loop-n
invariant-loop-n l = l.beside.plain.next_cursor ≤ l.fn.beside.plain.next_cursor + l.n
