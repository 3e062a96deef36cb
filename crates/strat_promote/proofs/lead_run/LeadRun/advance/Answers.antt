use Rattle.std.proofs.Common.{sym, ◌∙◌}
use Rattle.strat_merge.proofs.PassLemmas.{on_ok_map}
use Rattle.strat_promote.proofs.LeadRunLemmas.{advanced, bad_before, seen_misfit, lead_run_is}
use Rattle.strat_promote.proofs.lead_run.LeadRun.advance.Goals as goal

pub invariant_of-self-clause-law : goal.invariant_of-self-clause-law
invariant_of-self-clause-law g c = lead_run_is _ _ _ _ c.reach_lead.ensures.state

pub returns-clause-ok : goal.returns-clause-ok
returns-clause-ok g c =
    let r = c.args.self.now in
    on_ok_map c.reach_lead.result c.reach_lead.ensures.ok
    (advanced (g.D.Disk.view c.args.disk.now) r.tag r.horizon r.blocks c.reach_lead.new.blocks r.at c.reach_lead.new.at c.requires r.settled c.reach_lead.ensures.state)

pub returns-clause-err : goal.returns-clause-err
returns-clause-err g c = λ b torn f exposed.
    let r = c.args.self.now in seen_misfit r.tag r.blocks r.at r.settled f ∙ (c.reach_lead.ensures.damaged b torn).1 f exposed

pub returns-clause-kept : goal.returns-clause-kept
returns-clause-kept g c = λ f b exposed bad.
    let r = c.args.self.now in
    seen_misfit r.tag r.blocks r.at r.settled f
    ∙ bad_before c.reach_lead.result (g.D.Disk.view c.args.disk.now) r.tag r.blocks c.reach_lead.new.blocks _ c.reach_lead.new.at c.reach_lead.ensures.ok c.reach_lead.ensures.err f b exposed
    (sym (seen_misfit r.tag c.reach_lead.new.blocks c.reach_lead.new.at c.reach_lead.ensures.state f) ∙ bad)
