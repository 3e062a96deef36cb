use Rattle.std.proofs.Common.{◌-◌, sym, ◌∙◌, arith}
use Rattle.strat_model.proofs.PlainLemmas.{climb_parent, climb_root, climb_nowhere}
use Rattle.strat_model.specs.Table.{parents_of}
use Rattle.strat_model.proofs.plain_table.PlainTable.depth.Goals as goal

pub returns-in-None : goal.returns-in-None
returns-in-None c = record {
  ok = omega (arith, c.loop.invariant.so_far, climb_root (c.args.version - c.loop.counter) (parents_of c.args.self.now) c.loop.at (sym c.parent_of.ensures.ok ∙ c.in-None.is));
}

pub loop-preserved : goal.loop-preserved
loop-preserved c = record {
  so_far = omega (arith, c.loop.invariant.so_far, climb_parent c.args.version c.loop.counter (parents_of c.args.self.now) c.loop.at c.in-Some.parent (omega arith) (sym c.parent_of.ensures.ok ∙ c.in-Some.is));
  few = omega arith;
}

pub returns : goal.returns
returns c = record { ok = omega (arith, climb_nowhere (c.args.version - c.loop.counter) (parents_of c.args.self.now) c.loop.at (omega arith)) }
