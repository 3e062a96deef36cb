use Rattle.std.proofs.Common.{ℕ, sym, subst}
use Rattle.strat_merge.specs.Runs.{Advances}
use Rattle.strat_check.specs.MarkedRuns.{marked_view, unmarked_seen}
use Rattle.strat_check.proofs.MarkedSteps.{marked_advances, ok_mapped, some_unmarked}
use Rattle.strat_check.proofs.marking.MarkedRunRun.advance.Goals as goal

pub pass-requires : goal.pass-requires
pass-requires g c = some_unmarked c.args.self.now.place (unmarked_seen c.args.self.now).first c.requires

pub returns-clause-ok : goal.returns-clause-ok
returns-clause-ok g c =
    let r = c.args.self.now in
    ok_mapped c.pass.result c.pass.ensures.ok (λ step.
    subst (λ (i : ℕ). Advances (g.D.Disk.view c.args.disk.now) (marked_view r.place (unmarked_seen r)) (marked_view i (unmarked_seen c.pass.new.self))) (sym c.pass.ensures.found)
    (marked_advances (g.D.Disk.view c.args.disk.now) r.place (unmarked_seen r) (unmarked_seen c.pass.new.self) step))
