use Rattle.std.proofs.Common.{arith}
use Rattle.std.proofs.lemmas.List.{get_or_default}
use Rattle.strat_extent.proofs.ChangeLemmas.{can_give_next, given_more}
use Rattle.strat_extent.proofs.space.Space.give_runs.Goals as goal

pub give_run-requires : goal.give_run-requires
give_run-requires c =
    can_give_next c.args.self.now c.loop-run.self c.args.runs.now c.loop-run.run-index _ (omega arith)
    (get_or_default c.args.runs.now c.loop-run.run-index _ _ (omega arith)) c.requires c.loop-run.invariant

pub loop-run-preserved : goal.loop-run-preserved
loop-run-preserved c =
    given_more c.args.self.now c.loop-run.self c.give_run.new.self c.args.runs.now c.loop-run.run-index _ (omega arith)
    (get_or_default c.args.runs.now c.loop-run.run-index _ _ (omega arith)) c.loop-run.invariant c.give_run.ensures.ok
