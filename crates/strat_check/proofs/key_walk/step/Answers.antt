use Rattle.strat_check.proofs.KeyWalkLemmas.{step_alone}
use Rattle.strat_check.proofs.key_walk.step.Goals as goal

pub returns-clause-reads : goal.returns-clause-reads
returns-clause-reads g c =
    step_alone c.args.run.now c.pass.new.self _ _ _ _ _ _ _ _ _ c.pass.ensures.same c.pass.ensures.cause c.pass.ensures.damaged c.pass.ensures.err c.pass.ensures.kept c.pass.ensures.reads
