use Rattle.strat_extent.specs.Change.{CanMark}
use Rattle.def_publish.specs.Occupied.{arrays_in, extents_of}
use Rattle.strat_memory.proofs.OwnLemmas.{chain_fails, marks_both, refused}
use Rattle.strat_memory.proofs.belonging.mark_all.Goals as goal

pub returns-then-not-branch : goal.returns-then-not-branch
returns-then-not-branch c = record {
  ok = chain_fails c.args.space.now c.args.chain.now (extents_of (arrays_in c.args.levels.now)) (refused c.in_ok-mark.field-0 (CanMark c.args.space.now c.args.chain.now) c.if-not-branch.true c.in_ok-mark.ensures.cause.1);
}

pub returns : goal.returns
returns c = record {
  ok = marks_both c.in_ok-marked.marked c.args.space.now c.mark.new.self c.mark_levels.new.space c.args.chain.now (extents_of (arrays_in c.args.levels.now))
      (rw c.if-not-branch.false at c.in_ok-mark.ensures.ok) c.in_ok-marked.ensures.ok;
}
