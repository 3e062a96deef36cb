use Rattle.std.proofs.Common.{List, ℕ, sym, ap, ◌∙◌, subst}
use Rattle.std.specs.List.{Contains}
use Rattle.strat_base.specs.Entries.{is_tagged}
use Rattle.strat_promote.specs.LeadRuns.{BlockReading, misfit_from}
use Rattle.strat_promote.proofs.LeadRunLemmas.{opened, seen_misfit, damage_told, lead_run_is}
use Rattle.strat_promote.proofs.lead_run.LeadRun.open.Goals as goal

pub invariant_of-result-clause-law : goal.invariant_of-result-clause-law
invariant_of-result-clause-law g c = lead_run_is _ _ _ _ c.reach_lead.ensures.state

pub invariant_of-result-clause-below : goal.invariant_of-result-clause-below
invariant_of-result-clause-below g c = λ v tagged.
    c.requires.room v (ap (λ (versions : List ℕ). is_tagged versions v) (sym (c.in_ok-tag.ensures.ok ∙ c.as_slice.ensures.ok)) ∙ tagged)

pub returns-in_err-reach_lead-clause-damaged : goal.returns-in_err-reach_lead-clause-damaged
returns-in_err-reach_lead-clause-damaged g c = λ b torn.
    let bad = c.in_err-reach_lead.ensures.damaged b (damage_told {U = Unit {0}} c.from_residual-in_err-reach_lead.result c.in_err-reach_lead.field-0.0 b c.from_residual-in_err-reach_lead.ensures.1 torn) in
    let begun = c.in_ok-blocks.ensures.ok in (
      subst (λ (r : BlockReading). Contains r.blocks b) begun bad.0,
      λ f exposed. sym (ap (misfit_from f) begun) ∙ bad.1 f exposed,
    )

pub returns-clause-ok : goal.returns-clause-ok
returns-clause-ok g c = λ f exposed.
    opened (g.D.Disk.view c.args.disk.now) c.in_ok-tag.tag c.args.desc.now.versions c.args.horizon c.args.desc.now.extents c.in_ok-blocks.blocks c.reach_lead.new.blocks c.reach_lead.new.at
    c.in_ok-blocks.ensures.ok (c.in_ok-tag.ensures.ok ∙ c.as_slice.ensures.ok) c.reach_lead.ensures.state c.in_ok-reach_lead.ensures.ok f exposed

pub returns-clause-kept : goal.returns-clause-kept
returns-clause-kept g c = λ f b exposed bad.
    sym (ap (misfit_from f) c.in_ok-blocks.ensures.ok) ∙ sym (c.in_ok-reach_lead.ensures.ok.misfit f exposed)
    ∙ sym (seen_misfit c.in_ok-tag.tag c.reach_lead.new.blocks c.reach_lead.new.at c.reach_lead.ensures.state f) ∙ bad
