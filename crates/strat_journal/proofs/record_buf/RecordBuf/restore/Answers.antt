use Rattle.std.proofs.Common.{◌∷◌, ◌++◌, [], length, ap, arith, length-append}
use Rattle.std.proofs.lemmas.List.{length-map}
use Rattle.strat_journal.specs.declared.journal.Logged.{Logged}
use Rattle.strat_journal.proofs.KeepLemmas as keep
use Rattle.strat_journal.proofs.TextLemmas.{whole_buffer}
use Rattle.strat_journal.proofs.record_buf.RecordBuf.restore.Goals as goal

pub put_records-requires : goal.put_records-requires
put_records-requires c =
    let s = c.self.inside in
    let room = rw (← c.self.view_is) at c.requires.room in
    record {
      room = omega (
        arith,
        ap length c.deref_mut.ensures.value,
        keep.front_fits _ _ s.bytes.items s.mem s.count s.staged s.end s.len c.self.invariant _ c.args.bytes.now _
            c.requires.kept.text c.requires.kept.lawful (length-map c.args.logged.now (λ (l : Logged). l.change)) room,
      );
    }

pub invariant_of-self : goal.invariant_of-self
invariant_of-self c =
    let s = c.self.inside in
    let room = rw (← c.self.view_is) at c.requires.room in
    let bytes = c.args.bytes.now in
    let number = length-map c.args.logged.now (λ (l : Logged). l.change) in
    let fits = keep.front_fits _ _ s.bytes.items s.mem s.count s.staged s.end s.len c.self.invariant _ bytes _ c.requires.kept.text c.requires.kept.lawful number room in
    let put = whole_buffer s.bytes.items c.deref_mut.result.now (bytes ++ 0 ∷ []) c.put_records.new.into s.bytes.len c.deref_mut.ensures.value (omega (arith, s.bytes.ok.0)) (omega (arith, fits, length-append bytes (0 ∷ []))) c.put_records.ensures.ok in
    keep.read_keeps _ _ _ s.mem (length c.args.logged.now) 0 (length bytes) (length bytes)
    (keep.list_restored _ _ s.bytes.items s.mem s.count s.staged s.end s.len c.self.invariant _ bytes _ _ c.requires.kept.text c.requires.kept.lawful number room put)

pub returns : goal.returns
returns c =
    let s = c.self.inside in
    let room = rw (← c.self.view_is) at c.requires.room in
    let bytes = c.args.bytes.now in
    let number = length-map c.args.logged.now (λ (l : Logged). l.change) in
    let fits = keep.front_fits _ _ s.bytes.items s.mem s.count s.staged s.end s.len c.self.invariant _ bytes _ c.requires.kept.text c.requires.kept.lawful number room in
    let put = whole_buffer s.bytes.items c.deref_mut.result.now (bytes ++ 0 ∷ []) c.put_records.new.into s.bytes.len c.deref_mut.ensures.value (omega (arith, s.bytes.ok.0)) (omega (arith, fits, length-append bytes (0 ∷ []))) c.put_records.ensures.ok in
    record {
      ok = rw (← c.self.view_is)
          (keep.same_buffered s.mem _ _ _ _
          (keep.list_kept _ _ _ s.mem (length c.args.logged.now) 0 (length bytes) (length bytes)
          (keep.list_restored _ _ s.bytes.items s.mem s.count s.staged s.end s.len c.self.invariant _ bytes _ _ c.requires.kept.text c.requires.kept.lawful number room put))
          (keep.none_in _));
    }
