use Rattle.std.proofs.Common.{◌≡◌, take, length, IsTrue}
use Rattle.strat_arena.specs.Items.{entries_of, have_pairs}
use Rattle.strat_level.specs.Memtable.{entries_held}
use Rattle.strat_promote.proofs.zero_run.copy_all.Given as goal

abbrev pub invariant-loop-i : goal.invariant-loop-i
invariant-loop-i l = record {
  copied : entries_of l.arena.pairs l.items ≡ take l.i (entries_held l.pool l.zero);
  alone : length l.arena.pairs ≡ length l.items;
  pairs : IsTrue (have_pairs l.arena.pairs l.items);
}
