use Rattle.std.proofs.Common.{sym, arith}
use Rattle.strat_base.specs.EntryView.{entry_of}
use Rattle.strat_promote.specs.LeadRuns.{entries_at_hand}
use Rattle.strat_check.proofs.ScanLemmas.{held_at, one_more_low, one_high}
use Rattle.strat_check.proofs.scan.are_within.Goals as goal

pub returns-then-entry-versions : goal.returns-then-entry-versions
returns-then-entry-versions c =
    let here = held_at c.args.scratch.now c.loop-i.i (entry_of c.entry.result) (omega (arith, c.requires)) c.entry.ensures.ok in
    sym (one_high c.args.versions (entries_at_hand c.args.scratch.now) c.loop-i.i (entry_of c.entry.result) (omega (arith, c.requires)) here (omega arith))

pub loop-i-preserved : goal.loop-i-preserved
loop-i-preserved c =
    let here = held_at c.args.scratch.now c.loop-i.i (entry_of c.entry.result) (omega (arith, c.requires)) c.entry.ensures.ok in
    one_more_low c.args.versions (entries_at_hand c.args.scratch.now) c.loop-i.i (entry_of c.entry.result) (omega (arith, c.requires)) here (omega arith) c.loop-i.invariant
