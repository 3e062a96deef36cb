use Rattle.std.proofs.Common.{take}
use Rattle.strat_extent.specs.Change.{IsMarked, CanMark}
use Rattle.strat_extent.proofs.space.Space.mark.Given as goal

abbrev pub invariant-loop-i : goal.invariant-loop-i
invariant-loop-i l = record {
  marked : IsMarked l.fn.self (take l.i l.runs) l.self;
  can : CanMark l.fn.self (take l.i l.runs);
}
