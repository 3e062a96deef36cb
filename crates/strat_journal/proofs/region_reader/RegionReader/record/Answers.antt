use Rattle.std.proofs.Common.{ap, ◌∙◌, arith}
use Rattle.strat_base.specs.ChangeView.{change_of}
use Rattle.strat_journal.specs.RegionReader.{ReadSoFar}
use Rattle.strat_journal.proofs.RegionReaderLemmas.{begins_near, record_ends}
use Rattle.strat_journal.proofs.region_reader.RegionReader.record.Goals as goal

pub returns-clause-fits : goal.returns-clause-fits
returns-clause-fits c =
    begins_near c.deref.result.now c.args.self.now.bytes c.args.at c.in-Some.next (change_of c.in-Some.change)
    (c.deref.ensures.value ∙ ap (λ (p : ReadSoFar). p.bytes) c.self.view_is) c.in-Some.ensures.found
    (let there = rw (← c.self.view_is) at c.requires.fits in omega (arith, there.0, c.deref.ensures.len, c.self.inside.bytes.ok.0)) c.in-Some.ensures.end

pub returns-clause-end : goal.returns-clause-end
returns-clause-end c =
    let bytes = c.deref.ensures.value ∙ ap (λ (p : ReadSoFar). p.bytes) c.self.view_is in
    let there = rw (← c.self.view_is) at c.requires.fits in
    rw c.in_ok-new.ensures.ok
    (record_ends c.deref.result.now c.args.self.now.bytes c.args.at c.in-Some.next (change_of c.in-Some.change) bytes
    c.if-not-is_open.ensures.ok.0 c.in-Some.ensures.found (omega (arith, there.0, c.deref.ensures.len, c.self.inside.bytes.ok.0)) c.in-Some.ensures.end)
