use Rattle.std.proofs.Common.{sym, subst, arith}
use Rattle.strat_extent.specs.Change.{IsMarked, CanGive}
use Rattle.strat_promote.proofs.EdgeLemmas.{can_give_writer, given_writer}
use Rattle.strat_promote.proofs.edges.give_all.Goals as goal

pub give-requires : goal.give-requires
give-requires c = record {
  found = subst (CanGive c.loop-writer.space) (sym c.extents.ensures.ok)
      (can_give_writer c.args.space.now c.loop-writer.space c.args.writers.now c.loop-writer.writer-index c.writer-item.result (omega arith) c.writer-item.is
      c.requires.found c.loop-writer.invariant);
}

pub loop-writer-preserved : goal.loop-writer-preserved
loop-writer-preserved c =
    given_writer c.args.space.now c.loop-writer.space c.give.new.self c.args.writers.now c.loop-writer.writer-index c.writer-item.result (omega arith) c.writer-item.is
    c.loop-writer.invariant (subst (λ xs. IsMarked c.give.new.self xs c.loop-writer.space) c.extents.ensures.ok c.give.ensures.ok)
