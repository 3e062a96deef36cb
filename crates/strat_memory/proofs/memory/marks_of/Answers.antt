use Rattle.std.proofs.Common.{arith, ◌∙◌}
use Rattle.std.proofs.lemmas.List.{take_all}
use Rattle.strat_memory.proofs.memory.marks_of.Goals as goal

pub returns : goal.returns
returns c = record {
  ok = c.loop-v.invariant ∙ take_all c.loop-v.v c.args.tree.now.marks (omega (arith, c.loop-v-test.false, c.count-versions.ensures.ok, c.is_dead.ensures.kept.len));
}
