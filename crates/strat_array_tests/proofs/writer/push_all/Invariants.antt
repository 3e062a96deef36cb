use Rattle.std.proofs.Common.{◌≡◌, ◌≤◌, ◌+◌, ◌-◌, take, map, length}
use Rattle.strat_base.specs.EntryView.{entry_of}
use Rattle.strat_array.specs.Taking.{AreUsed}
use Rattle.strat_extent.specs.Blocks.{used_count}
use Rattle.def_bytes.specs.Arrays.{blocks_of}
use Rattle.strat_array.specs.Pushed.{IsEndOf}
use Rattle.strat_array_tests.proofs.writer.push_all.Given as goal

abbrev pub invariant-loop-i : goal.invariant-loop-i
invariant-loop-i l = record {
  all : IsEndOf l.writer.pending (map entry_of (take l.i l.entries));
  count : l.writer.count ≡ l.i;
  room : used_count l.space + (length l.entries - l.i) + 1 ≤ 4294967295 - l.space.first;
  used : AreUsed l.space (blocks_of l.writer.extents);
}
