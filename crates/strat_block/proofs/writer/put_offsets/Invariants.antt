use Rattle.std.proofs.Common.{◌≡◌, take}
use Rattle.strat_base.specs.Numbers.{placed}
use Rattle.strat_block.specs.Collected.{shifted}
use Rattle.strat_block.proofs.writer.put_offsets.Given as goal

abbrev pub invariant-loop-i : goal.invariant-loop-i
invariant-loop-i l = l.into ≡ placed l.fn.into 2 (shifted l.first (take l.i l.starts))
