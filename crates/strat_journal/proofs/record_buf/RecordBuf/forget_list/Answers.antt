use Rattle.std.proofs.Common.{◌-◌, length, ap, arith}
use Rattle.strat_journal.proofs.KeepLemmas as keep
use Rattle.strat_journal.proofs.TextLemmas.{moved_whole}
use Rattle.strat_journal.proofs.record_buf.RecordBuf.forget_list.Goals as goal

pub move_to_front-requires : goal.move_to_front-requires
move_to_front-requires c =
    let s = c.self.inside in
    let within = keep.len_within _ _ s.bytes.items s.mem s.count s.staged s.end s.len c.self.invariant in
    record { fits = (omega (arith, c.self.invariant.batch_end), omega (arith, within, ap length c.deref_mut.ensures.value)) }

pub invariant_of-self : goal.invariant_of-self
invariant_of-self c =
    let s = c.self.inside in
    let within = keep.len_within _ _ s.bytes.items s.mem s.count s.staged s.end s.len c.self.invariant in
    let put = moved_whole s.bytes.items c.deref_mut.result.now c.move_to_front.new.bytes s.bytes.len s.end s.len c.deref_mut.ensures.value (omega (arith, s.bytes.ok.0)) (omega (arith, c.self.invariant.batch_end)) within c.move_to_front.ensures.ok in
    keep.read_keeps _ _ _ s.mem 0 s.staged 0 (s.len - s.end)
    (keep.batch_moved _ _ s.bytes.items s.mem s.count s.staged s.end s.len c.self.invariant _ put)

pub returns : goal.returns
returns c =
    let s = c.self.inside in
    let within = keep.len_within _ _ s.bytes.items s.mem s.count s.staged s.end s.len c.self.invariant in
    let put = moved_whole s.bytes.items c.deref_mut.result.now c.move_to_front.new.bytes s.bytes.len s.end s.len c.deref_mut.ensures.value (omega (arith, s.bytes.ok.0)) (omega (arith, c.self.invariant.batch_end)) within c.move_to_front.ensures.ok in
    record {
      ok = rw (← c.self.view_is)
          (keep.same_buffered s.mem _ _ _ _ (keep.none_in _)
          (keep.batch_kept _ _ _ s.mem 0 s.staged 0 (s.len - s.end)
          (keep.batch_moved _ _ s.bytes.items s.mem s.count s.staged s.end s.len c.self.invariant _ put)));
    }
