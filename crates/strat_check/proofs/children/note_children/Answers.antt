use Rattle.std.proofs.Common.{arith}
use Rattle.strat_check.proofs.ChildLemmas.{next_noted}
use Rattle.strat_check.proofs.children.note_children.Goals as goal

pub loop-c-preserved : goal.loop-c-preserved
loop-c-preserved c =
    record {
      bound = omega (arith, c.loop-c.invariant.bound);
      len = c.note_child.ensures.len;
      right = next_noted c.args.tree.now.parents c.args.tree.now.marks c.loop-c.first _ c.loop-c.c (omega arith) c.loop-c.invariant.bound c.loop-c.invariant.right c.note_child.ensures.ok;
    }
