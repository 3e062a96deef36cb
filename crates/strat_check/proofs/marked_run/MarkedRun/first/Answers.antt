use Rattle.std.proofs.Common.{◌<◌, sym, subst, arith}
use Rattle.strat_base.specs.Entries.{Entry}
use Rattle.strat_base.specs.EntryView.{entry_of}
use Rattle.strat_check.proofs.MarkedSteps.{low_here}
use Rattle.strat_check.proofs.marked_run.MarkedRun.first.Goals as goal

pub returns-then-self-count-clause-room : goal.returns-then-self-count-clause-room
returns-then-self-count-clause-room c =
    let e : Entry = entry_of c.entry.result in
    let r = c.args.self.now in
    subst (λ (d : Entry). d.version < r.versions) (sym (c.entry.ensures.ok e)) (low_here r.versions r.blocks.entries r.at e r.blocks.blocks (omega arith) r.settled)
