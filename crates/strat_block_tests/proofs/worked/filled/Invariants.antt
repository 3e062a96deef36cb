use Rattle.std.proofs.Common.{◌≡◌, take, map}
use Rattle.strat_base.specs.EntryView.{entry_of}
use Rattle.strat_block_tests.proofs.worked.filled.Given as goal

abbrev pub invariant-loop-i : goal.invariant-loop-i
invariant-loop-i l = l.writer ≡ map entry_of (take l.i l.entries)
