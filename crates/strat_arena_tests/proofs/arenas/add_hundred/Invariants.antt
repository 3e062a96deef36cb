use Rattle.std.proofs.Common.{◌≡◌, length}
use Rattle.strat_arena_tests.proofs.arenas.add_hundred.Given as goal

abbrev pub invariant-loop-number : goal.invariant-loop-number
invariant-loop-number l = length l.arena.pairs ≡ l.number
