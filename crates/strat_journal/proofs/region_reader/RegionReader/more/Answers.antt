use Rattle.std.proofs.Common.{arith}
use Rattle.strat_journal.proofs.RegionReaderLemmas.{block_read}
use Rattle.strat_journal.proofs.region_reader.RegionReader.more.Goals as goal

pub returns-clause-ok : goal.returns-clause-ok
returns-clause-ok g c =
    let s = c.self.inside in
    let read = c.in_ok-read_at.ensures in
    let short = rw (← c.self.view_is) at c.requires in
    rw (← c.self.view_is)
    (block_read (g.D.Disk.view c.args.disk.now) (g.D.Disk.view c.read_at.new.self) _ _ s.first s.size _ s.bytes.items c.read_at.new.into _ tt _ _ c.self.invariant short
    (omega (arith, c.len.ensures, s.bytes.ok.0)) (omega arith) c.read_at.auto.into (rw c.unwrap.ensures at c.extend_from_slice.ensures.items) read.ok
    (record { same = read.same; images = read.images; time = read.time }) read.reads.later read.reads.bound)
