use Rattle.std.proofs.Common.{◌+◌, arith}
use Rattle.strat_base.specs.ChangeView.{change_of}
use Rattle.strat_base.proofs.ChangeLemmas.{length-change_bytes}
use Rattle.strat_journal.proofs.KeepLemmas as keep
use Rattle.strat_journal.proofs.record_buf.RecordBuf.add.Goals as goal

pub put_record-self-inside-requires-clause-room : goal.put_record-self-inside-requires-clause-room
put_record-self-inside-requires-clause-room c =
    let s = c.self.inside in
    let room = rw (← c.self.view_is) at c.requires.room in
    let free = keep.room_more _ _ s.bytes.items s.mem s.count s.staged s.end s.len c.self.invariant (omega (arith, room.1, c.self.invariant.list_count, c.self.invariant.batch_count)) in
    omega (arith, free, length-change_bytes (change_of c.args.change.now) c.requires.fits, s.bytes.ok.0)

pub invariant_of-self : goal.invariant_of-self
invariant_of-self c =
    let s = c.self.inside in
    let room = rw (← c.self.view_is) at c.requires.room in
    let put = c.put_record-self-inside in
    keep.read_keeps _ _ put.new.bytes.items s.mem s.count (s.staged + 1) s.end put.result
    (keep.change_joined _ _ s.bytes.items s.mem s.count s.staged s.end s.len c.self.invariant (change_of c.args.change.now) c.requires.fits
    (omega (arith, room.1, c.self.invariant.list_count, c.self.invariant.batch_count)) (omega (arith, room.0, c.self.invariant.batch_count))
    put.new.bytes.items put.result put.ensures.ok put.ensures.end)

pub returns : goal.returns
returns c =
    let s = c.self.inside in
    let room = rw (← c.self.view_is) at c.requires.room in
    let put = c.put_record-self-inside in
    let kept = keep.change_joined _ _ s.bytes.items s.mem s.count s.staged s.end s.len c.self.invariant (change_of c.args.change.now) c.requires.fits
    (omega (arith, room.1, c.self.invariant.list_count, c.self.invariant.batch_count)) (omega (arith, room.0, c.self.invariant.batch_count))
    put.new.bytes.items put.result put.ensures.ok put.ensures.end in
    record {
      ok = rw (← c.self.view_is)
          (keep.same_buffered s.mem _ _ _ _
          (keep.list_kept _ _ put.new.bytes.items s.mem s.count (s.staged + 1) s.end put.result kept)
          (keep.batch_kept _ _ put.new.bytes.items s.mem s.count (s.staged + 1) s.end put.result kept));
    }
