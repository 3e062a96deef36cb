use Rattle.std.proofs.Common.{◌-◌, List, sym, subst, ◌∙◌, arith}
use Rattle.strat_base.specs.declared.descriptors.Extent.{Extent}
use Rattle.strat_extent.specs.Change.{IsMarked}
use Rattle.strat_extent.proofs.ChangeLemmas.{given_back}
use Rattle.strat_extent.proofs.TakeLemmas.{TakenSoFar, taken_more, marked_same}
use Rattle.strat_extent.proofs.space.Space.take.Goals as goal

pub loop-left-preserved : goal.loop-left-preserved
loop-left-preserved c =
    subst (λ (xs : List Extent). TakenSoFar c.args.self.now c.args.n xs (c.loop-left.left - c.lowest-run.result.len) c.take_run.new.self) (sym c.in-Ok.ensures.ok.1)
    (taken_more c.args.self.now c.args.n c.loop-left.taken c.loop-left.left c.loop-left.self c.take_run.new.self c.lowest-run.result c.loop-left.invariant
    (omega arith) (omega arith) c.lowest-run.ensures.ok c.lowest-run.ensures.found c.lowest-run.ensures.end c.in-Ok.ensures.ok.0)

pub returns-in-Err-clause-err : goal.returns-in-Err-clause-err
returns-in-Err-clause-err c =
    given_back c.args.self.now c.take_run.new.self c.give_runs.new.self c.loop-left.taken
    (marked_same c.args.self.now c.loop-left.self c.take_run.new.self c.loop-left.taken c.loop-left.invariant.marked c.in-Err.ensures.err.0)
    (subst (λ (xs : List Extent). IsMarked c.give_runs.new.self xs c.take_run.new.self) (c.as_slice.ensures.ok ∙ c.in-Err.ensures.err.1) c.give_runs.ensures.ok)
