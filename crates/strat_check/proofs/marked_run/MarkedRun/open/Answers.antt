use Rattle.std.proofs.Common.{map, sym, ap, ◌∙◌, subst}
use Rattle.std.specs.List.{Contains}
use Rattle.def_check.specs.Marked.{marked}
use Rattle.strat_promote.specs.LeadRuns.{BlockReading, misfit_from}
use Rattle.strat_promote.proofs.LeadRunLemmas.{seen_misfit, damage_told, lead_run_is}
use Rattle.strat_check.specs.Below.{versions_below}
use Rattle.strat_check.proofs.MarkedSteps.{below_opened}
use Rattle.strat_check.proofs.marked_run.MarkedRun.open.Goals as goal

pub invariant_of-result-clause-law : goal.invariant_of-result-clause-law
invariant_of-result-clause-law g c = lead_run_is _ _ _ _ c.reach_below.ensures.state

pub returns-in_err-reach_below-clause-damaged : goal.returns-in_err-reach_below-clause-damaged
returns-in_err-reach_below-clause-damaged g c = λ b torn.
    let bad = c.in_err-reach_below.ensures.damaged b (damage_told {U = Unit {0}} c.from_residual-in_err-reach_below.result c.in_err-reach_below.field-0.0 b c.from_residual-in_err-reach_below.ensures.1 torn) in
    let begun = c.in_ok-blocks.ensures.ok in (
      subst (λ (r : BlockReading). Contains r.blocks b) begun bad.0,
      λ f exposed. sym (ap (misfit_from f) begun) ∙ bad.1 f exposed,
    )

pub returns-clause-ok : goal.returns-clause-ok
returns-clause-ok g c = λ f exposed content on up.
    let below =
    below_opened (g.D.Disk.view c.args.disk.now) c.args.versions c.args.desc.now.extents c.in_ok-blocks.blocks c.reach_below.new.blocks c.reach_below.new.at
    c.in_ok-blocks.ensures.ok c.reach_below.ensures.state c.in_ok-reach_below.ensures.ok f exposed content on up in
    (below, ap (map (marked c.args.place)) below)

pub returns-clause-kept : goal.returns-clause-kept
returns-clause-kept g c = λ f b exposed bad.
    sym (ap (misfit_from f) c.in_ok-blocks.ensures.ok) ∙ sym (c.in_ok-reach_below.ensures.ok.misfit f exposed)
    ∙ sym (seen_misfit (versions_below c.args.versions) c.reach_below.new.blocks c.reach_below.new.at c.reach_below.ensures.state f) ∙ bad
