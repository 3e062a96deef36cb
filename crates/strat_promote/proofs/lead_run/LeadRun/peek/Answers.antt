use Rattle.std.proofs.Common.{◌∙◌, ap, arith}
use Rattle.strat_base.specs.Entries.{Entry, is_tagged}
use Rattle.strat_base.specs.EntryView.{entry_of}
use Rattle.strat_promote.proofs.LeadRunLemmas.{lead_here}
use Rattle.strat_promote.proofs.lead_run.LeadRun.peek.Goals as goal

pub returns-then-self-count-clause-room : goal.returns-then-self-count-clause-room
returns-then-self-count-clause-room c =
    let e : Entry = entry_of c.entry.result in
    let r = c.args.self.now in
    r.below e.version
    (ap (λ (d : Entry). is_tagged r.tag d.version) (c.entry.ensures.ok e)
    ∙ lead_here r.tag r.blocks.entries r.at e r.blocks.blocks (omega arith) r.settled)
