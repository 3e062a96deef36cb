use Rattle.std.proofs.Common.{sym, ◌∙◌}
use Rattle.strat_promote.proofs.LeadRunLemmas.{advanced, bad_before, seen_misfit, lead_run_is}
use Rattle.strat_check.specs.Below.{versions_below}
use Rattle.strat_check.proofs.MarkedSteps.{ok_mapped}
use Rattle.strat_check.proofs.marked_run.MarkedRun.pass.Goals as goal

pub invariant_of-self-clause-law : goal.invariant_of-self-clause-law
invariant_of-self-clause-law g c = lead_run_is _ _ _ _ c.reach_below.ensures.state

pub returns-clause-ok : goal.returns-clause-ok
returns-clause-ok g c =
    let r = c.args.self.now in
    ok_mapped c.reach_below.result c.reach_below.ensures.ok (λ passes.
    advanced (g.D.Disk.view c.args.disk.now) (versions_below r.versions) r.versions r.blocks c.reach_below.new.blocks r.at c.reach_below.new.at c.requires r.settled c.reach_below.ensures.state passes)

pub returns-clause-err : goal.returns-clause-err
returns-clause-err g c = λ b torn f exposed.
    let r = c.args.self.now in seen_misfit (versions_below r.versions) r.blocks r.at r.settled f ∙ (c.reach_below.ensures.damaged b torn).1 f exposed

pub returns-clause-kept : goal.returns-clause-kept
returns-clause-kept g c = λ f b exposed bad.
    let r = c.args.self.now in
    seen_misfit (versions_below r.versions) r.blocks r.at r.settled f
    ∙ bad_before c.reach_below.result (g.D.Disk.view c.args.disk.now) (versions_below r.versions) r.blocks c.reach_below.new.blocks _ c.reach_below.new.at c.reach_below.ensures.ok c.reach_below.ensures.err f b exposed
    (sym (seen_misfit (versions_below r.versions) c.reach_below.new.blocks c.reach_below.new.at c.reach_below.ensures.state f) ∙ bad)
