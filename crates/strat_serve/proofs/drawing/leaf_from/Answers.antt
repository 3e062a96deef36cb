use Rattle.std.proofs.Common.{◌+◌, ◌<◌, length, arith, ◌∙◌, sym}
use Rattle.strat_serve.proofs.DrawingLemmas.{leaf_next}
use Rattle.strat_serve.proofs.drawing.leaf_from.Goals as goal

pub loop-leaf-preserved : goal.loop-leaf-preserved
loop-leaf-preserved c =
    let lt : c.loop-leaf.leaf + 1 < length c.args.parents.now = omega (arith, c.loop-leaf-test.true, c.requires.found) in
    record {
      within = omega (arith, lt);
      same = leaf_next c.args.parents.now c.loop-leaf.leaf lt (sym c.has_child.ensures ∙ c.if-has_child.true) ∙ c.loop-leaf.invariant.same;
    }
