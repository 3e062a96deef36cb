use Rattle.strat_publish.proofs.RetiringLemmas.{retires_one, retires_all}
use Rattle.strat_publish.proofs.checkpoint.retire_arrays.Goals as goal

pub loop-desc-preserved : goal.loop-desc-preserved
loop-desc-preserved c =
    retires_one c.args.memory.now c.args.arrays c.loop-desc.memory c.retire.new.self c.loop-desc.arrays c.pop.new.self c.in-Some.desc c.loop-desc.invariant c.in-Some.ensures.found c.retire.ensures.ok

pub returns-clause-ok : goal.returns-clause-ok
returns-clause-ok c = retires_all c.args.memory.now c.args.arrays c.loop-desc.memory c.loop-desc.arrays c.loop-desc.invariant c.in_default.ensures.none.0
