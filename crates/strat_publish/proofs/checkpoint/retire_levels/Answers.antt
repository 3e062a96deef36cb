use Rattle.strat_publish.proofs.RetiringLemmas.{level_taken, levels_all}
use Rattle.strat_publish.proofs.checkpoint.retire_levels.Goals as goal

pub loop-level-preserved-then-level-target : goal.loop-level-preserved-then-level-target
loop-level-preserved-then-level-target c =
    level_taken c.args.target c.args.memory.now c.args.levels c.loop-level.memory c.loop-level.levels c.pop.new.self c.in-Some.level c.loop-level.invariant c.in-Some.ensures.found
    c.retire_arrays.new.memory c.if-level-target.true c.retire_arrays.ensures.ok

pub returns : goal.returns
returns c = record { ok = levels_all c.args.target c.args.memory.now c.args.levels c.loop-level.memory c.loop-level.levels c.loop-level.invariant c.in_default.ensures.none.0 }
