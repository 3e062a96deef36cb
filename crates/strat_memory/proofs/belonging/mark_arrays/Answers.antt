use Rattle.std.proofs.Common.{arith}
use Rattle.strat_extent.specs.Change.{CanMark}
use Rattle.def_publish.specs.Occupied.{extents_of}
use Rattle.strat_memory.proofs.OwnLemmas.{array_marked, array_fails, arrays_end, refused}
use Rattle.strat_memory.proofs.belonging.mark_arrays.Goals as goal

pub returns-then-not-branch : goal.returns-then-not-branch
returns-then-not-branch c = record {
  ok = array_fails c.args.arrays.now c.loop-array.array-index c.array-item.result (omega arith) c.array-item.is c.args.space.now c.loop-array.space (extents_of c.args.arrays.now) c.loop-array.invariant
      (refused c.in_ok-mark.field-0 (CanMark c.loop-array.space c.array-item.result.extents) c.if-not-branch.true c.in_ok-mark.ensures.cause.1);
}

pub loop-array-preserved : goal.loop-array-preserved
loop-array-preserved c =
    array_marked c.args.arrays.now c.loop-array.array-index c.array-item.result (omega arith) c.array-item.is c.args.space.now c.loop-array.space (extents_of c.args.arrays.now) c.mark.new.self c.loop-array.invariant
    (rw c.if-not-branch.false at c.in_ok-mark.ensures.ok)

pub returns : goal.returns
returns c = record { ok = arrays_end c.args.arrays.now c.loop-array.array-index c.args.space.now c.loop-array.space (omega arith) c.loop-array.invariant }
