-- All numbers so far have shares.
use Rattle.std.proofs.Common.{◌≡◌, take}
use Rattle.strat_arena.specs.PoolView.{count_shared}
use Rattle.strat_arena.proofs.pool.first_vacant.Given as goal

abbrev pub invariant-loop-n : goal.invariant-loop-n
invariant-loop-n l = count_shared (take l.n l.entries) ≡ l.n
