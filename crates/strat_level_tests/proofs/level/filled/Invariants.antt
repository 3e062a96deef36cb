-- Level 0 stands in its pool, and has room for the puts to come.
use Rattle.std.proofs.Common.{◌≡◌, ◌+◌}
use Rattle.strat_level.specs.Memtable.{MemtableStands}
use Rattle.strat_level_tests.proofs.level.filled.Given as goal

abbrev pub invariant-loop-n : goal.invariant-loop-n
invariant-loop-n l = record {
  kept : MemtableStands l.pool l.zero;
  room : l.zero.spare + l.n ≡ l.initial.zero.spare;
}
