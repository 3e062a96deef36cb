use Rattle.std.proofs.Common.{◌+◌, drop}
use Rattle.strat_journal.proofs.KeepLemmas as keep
use Rattle.strat_journal.proofs.record_buf.RecordBuf.join.Goals as goal

pub invariant_of-self : goal.invariant_of-self
invariant_of-self c =
    let s = c.self.inside in
    keep.read_keeps _ _ s.bytes.items s.mem (s.count + s.staged) 0 s.len s.len
    (keep.batch_joined _ _ s.bytes.items s.mem s.count s.staged s.end s.len c.self.invariant)

pub returns : goal.returns
returns c =
    let s = c.self.inside in
    record {
      ok = rw (← c.self.view_is)
          (keep.same_buffered s.mem _ _ _ _
          (keep.list_kept _ _ s.bytes.items s.mem (s.count + s.staged) 0 s.len s.len
          (keep.batch_joined _ _ s.bytes.items s.mem s.count s.staged s.end s.len c.self.invariant))
          (keep.none_in (drop s.len s.bytes.items)));
    }
