use Rattle.std.proofs.Common.{arith}
use Rattle.strat_journal.proofs.LaidLemmas.{length-records_bytes}
use Rattle.strat_journal.specs.Buffered.{changes_in}
use Rattle.strat_journal.proofs.record_buf.RecordBuf.end.Goals as goal

pub returns : goal.returns
returns c =
    let s = c.self.inside in
    let keeps = c.self.invariant in
    rw (← c.self.view_is)
    (record {
      ok = keeps.list_end;
      fits = (keeps.list_fits, keeps.batch_fits, omega (arith, keeps.few, keeps.list_count, keeps.batch_count));
      len = omega (arith, keeps.list_end, length-records_bytes (changes_in s.count s.bytes.items) keeps.list_fits, keeps.list_count, keeps.few, keeps.mem_most);
    })
