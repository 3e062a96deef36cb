use Rattle.std.proofs.Common.{arith, subst}
use Rattle.strat_extent.specs.Change.{CanMark}
use Rattle.def_publish.specs.Occupied.{arrays_in, extents_of, UsesMore}
use Rattle.strat_memory.proofs.OwnLemmas.{level_marked, level_fails, levels_end}
use Rattle.strat_memory.proofs.belonging.mark_levels.Goals as goal

pub returns-then-not-branch : goal.returns-then-not-branch
returns-then-not-branch c = record {
  ok = level_fails c.args.levels.now c.loop-level.level-index c.level-item.result (omega arith) c.level-item.is c.args.space.now c.loop-level.space (extents_of (arrays_in c.args.levels.now)) c.loop-level.invariant
      (subst (λ arrays. CanMark c.loop-level.space (extents_of arrays) → ⊥) c.as_slice.ensures.ok (rw c.if-not-branch.true at c.in_ok-mark_arrays.ensures.ok));
}

pub loop-level-preserved : goal.loop-level-preserved
loop-level-preserved c =
    level_marked c.args.levels.now c.loop-level.level-index c.level-item.result (omega arith) c.level-item.is c.args.space.now c.loop-level.space (extents_of (arrays_in c.args.levels.now)) c.mark_arrays.new.space c.loop-level.invariant
    (subst (λ arrays. UsesMore c.loop-level.space (extents_of arrays) c.mark_arrays.new.space) c.as_slice.ensures.ok (rw c.if-not-branch.false at c.in_ok-mark_arrays.ensures.ok))

pub returns : goal.returns
returns c = record { ok = levels_end c.args.levels.now c.loop-level.level-index c.args.space.now c.loop-level.space (omega arith) c.loop-level.invariant }
