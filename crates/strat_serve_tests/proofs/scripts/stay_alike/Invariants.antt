use Rattle.std.proofs.Common.{◌+◌, ◌-◌, ◌≤◌}
use Rattle.strat_serve_tests.proofs.scripts.stay_alike.Given as goal

abbrev pub invariant-loop-n : goal.invariant-loop-n
invariant-loop-n g l = l.beside.plain.next_cursor + (l.to - l.n) ≤ l.fn.beside.plain.next_cursor + l.to
