use Rattle.std.proofs.Common.{◌≡◌, ◌∙◌, ap, sym, true, false, arith}
use Rattle.strat_base.specs.Entries.{Entry, is_tagged}
use Rattle.strat_base.specs.EntryView.{entry_of}
use Rattle.strat_promote.proofs.LeadRunLemmas.{skip_one, begin_here}
use Rattle.strat_promote.proofs.lead_run.first_lead.Goals as goal

pub loop-at-preserved : goal.loop-at-preserved
loop-at-preserved c =
    let e : Entry = entry_of c.entry.result in
    let no' : is_tagged c.args.tag.now e.version ≡ false = sym c.holds.ensures.ok ∙ c.if-not-holds.true in (
      omega arith,
      omega arith,
      skip_one c.args.tag.now c.args.blocks.now.entries c.loop-at.at e (omega arith) (ap (λ (d : Entry). is_tagged c.args.tag.now d.version) (sym (c.entry.ensures.ok e)) ∙ no')
          ∙ c.loop-at.invariant.2,
    )

pub returns-else-not-holds-clause-found : goal.returns-else-not-holds-clause-found
returns-else-not-holds-clause-found c = λ lt more.
    let e : Entry = entry_of c.entry.result in
    let yes' : is_tagged c.args.tag.now e.version ≡ true = sym c.holds.ensures.ok ∙ c.if-not-holds.false in
    begin_here c.args.tag.now c.args.blocks.now.entries c.loop-at.at e more lt (ap (λ (d : Entry). is_tagged c.args.tag.now d.version) (sym (c.entry.ensures.ok e)) ∙ yes')
