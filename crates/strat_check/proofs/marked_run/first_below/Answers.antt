use Rattle.std.proofs.Common.{◌≡◌, ◌∙◌, ap, sym, true, false, arith}
use Rattle.std.proofs.lemmas.Bool.{lt-ltb, le-ltb}
use Rattle.strat_base.specs.Entries.{Entry, is_tagged}
use Rattle.strat_base.specs.EntryView.{entry_of}
use Rattle.strat_promote.proofs.LeadRunLemmas.{skip_one, begin_here}
use Rattle.strat_check.specs.Below.{versions_below}
use Rattle.strat_check.proofs.MarkedSteps.{tagged_below}
use Rattle.strat_check.proofs.marked_run.first_below.Goals as goal

pub loop-at-preserved : goal.loop-at-preserved
loop-at-preserved c =
    let e : Entry = entry_of c.entry.result in
    let no' : is_tagged (versions_below c.args.versions) e.version ≡ false = tagged_below c.args.versions e.version ∙ le-ltb e.version c.args.versions (omega arith) in (
      omega arith,
      omega arith,
      skip_one (versions_below c.args.versions) c.args.blocks.now.entries c.loop-at.at e (omega arith) (ap (λ (d : Entry). is_tagged (versions_below c.args.versions) d.version) (sym (c.entry.ensures.ok e)) ∙ no')
          ∙ c.loop-at.invariant.2,
    )

pub returns-else-entry-versions-clause-found : goal.returns-else-entry-versions-clause-found
returns-else-entry-versions-clause-found c = λ lt more.
    let e : Entry = entry_of c.entry.result in
    let yes' : is_tagged (versions_below c.args.versions) e.version ≡ true = tagged_below c.args.versions e.version ∙ lt-ltb e.version c.args.versions (omega arith) in
    begin_here (versions_below c.args.versions) c.args.blocks.now.entries c.loop-at.at e more lt (ap (λ (d : Entry). is_tagged (versions_below c.args.versions) d.version) (sym (c.entry.ensures.ok e)) ∙ yes')
