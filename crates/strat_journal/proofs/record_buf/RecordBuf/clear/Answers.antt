use Rattle.std.proofs.Common.{refl}
use Rattle.strat_journal.proofs.KeepLemmas as keep
use Rattle.strat_journal.proofs.record_buf.RecordBuf.clear.Goals as goal

pub invariant_of-self : goal.invariant_of-self
invariant_of-self c =
    let s = c.self.inside in
    keep.cleared _ _ s.bytes.items _ s.mem s.count s.staged s.end s.len c.self.invariant refl

pub returns : goal.returns
returns c = record { ok = rw (← c.self.view_is) (keep.same_buffered c.self.inside.mem _ _ _ _ (keep.none_in _) (keep.none_in _)) }
