use Rattle.std.proofs.Common.{◌∷◌, ◌∙◌, ◌+◌, ◌-◌, ℕ, List, length, take, drop, ap, arith}
use Rattle.strat_journal.proofs.KeepLemmas as keep
use Rattle.strat_journal.proofs.record_buf.RecordBuf.behind_gate.Goals as goal

pub behind_gate-requires : goal.behind_gate-requires
behind_gate-requires c =
    let s = c.self.inside in
    record {
      fits = (
        omega (arith, c.self.invariant.batch_end),
        omega (arith, keep.len_within _ _ s.bytes.items s.mem s.count s.staged s.end s.len c.self.invariant, ap length c.deref.ensures.value),
      );
    }

pub returns : goal.returns
returns c =
    let s = c.self.inside in
    let some = rw (← c.self.view_is) at c.requires in
    record {
      ok = rw (← c.self.view_is)
          (ap (λ (x : List ℕ). 0xa7 ∷ x) (c.behind_gate.ensures.ok ∙ ap (λ (x : List ℕ). take (s.len - s.end) (drop (s.end + 1) x)) c.deref.ensures.value)
          ∙ keep.behind_split _ _ s.bytes.items s.mem s.count s.staged s.end s.len c.self.invariant some
          (keep.len_within _ _ s.bytes.items s.mem s.count s.staged s.end s.len c.self.invariant));
      len = omega (arith, c.behind_gate.ensures.len, keep.len_within _ _ s.bytes.items s.mem s.count s.staged s.end s.len c.self.invariant, c.self.invariant.room, c.self.invariant.mem_most);
    }
