-- Level 0 stands in its pool.
use Rattle.strat_level.specs.Memtable.{MemtableStands}
use Rattle.strat_promote_tests.proofs.scene.put_all.Given as goal

abbrev pub invariant-loop-i : goal.invariant-loop-i
invariant-loop-i l = MemtableStands l.pool l.zero
