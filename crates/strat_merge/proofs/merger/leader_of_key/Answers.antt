use Rattle.std.proofs.Common.{sym, ◌∙◌}
use Rattle.strat_merge.proofs.TurnLemmas.{leader_leads}
use Rattle.strat_merge.proofs.merger.leader_of_key.Goals as goal

pub returns-then-begins_with-clause-found : goal.returns-then-begins_with-clause-found
returns-then-begins_with-clause-found g c =
    let leads = leader_leads g.R.Run.view c.args.runs.now c.contest_of.result.runs.now c.in_ok-run.run' c.contest_of.ensures.ok c.in_ok-run.ensures.found.1 c.in_ok-run.ensures.ok in
    (leads.0, (leads.1, sym (c.begins_with.ensures.ok leads.0 leads.1.head) ∙ c.if-begins_with.true))

pub returns-else-begins_with-clause-none : goal.returns-else-begins_with-clause-none
returns-else-begins_with-clause-none g c = λ i e at.
    let leads = leader_leads g.R.Run.view c.args.runs.now c.contest_of.result.runs.now c.in_ok-run.run' c.contest_of.ensures.ok c.in_ok-run.ensures.found.1 c.in_ok-run.ensures.ok in
    (c.in_ok-run.run', (leads.0, sym (c.begins_with.ensures.ok leads.0 leads.1.head) ∙ c.if-begins_with.false, leads.1))
