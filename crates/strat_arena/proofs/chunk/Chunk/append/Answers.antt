use Rattle.std.proofs.Common.{◌≡◌, ◌≤◌, ℕ, ◌+◌, List, ◌++◌, map, length, take, Some, sym, ap, ◌∙◌, arith}
use Rattle.strat_arena.specs.ChunkView.{ChunkView}
use Rattle.strat_arena.specs.Filled.{held_bytes}
use Rattle.strat_arena.proofs.FilledLemmas.{bytes_back, filled_length, written_length, written_bytes}
use Rattle.strat_arena.proofs.chunk.Chunk.append.Goals as goal

pub invariant_of-self : goal.invariant_of-self
invariant_of-self c =
    let a = c.self.inside in
    let kept = c.self.invariant in
    let piece = c.args.piece.now in
    let old = held_bytes (take a.written a.cells.slots) in
    let many : length old ≡ a.written = filled_length a.cells.slots a.written old (omega (arith, kept.room, kept.cells_len)) kept.filled in
    let room = rw (← c.self.view_is) at c.requires.room in
    let fits : a.written + length piece ≤ length a.cells.slots = omega (arith, kept.cells_len) in
    let front : take (a.written + length piece) c.write_all.new.cells.slots ≡ map Some (old ++ piece)
    = ap (take (a.written + length piece)) c.write_all.ensures.ok ∙ written_bytes a.cells.slots a.written piece fits old kept.filled in
    record {
      cells_at = c.write_all.ensures.same ∙ kept.cells_at;
      lease_at = kept.lease_at;
      lease_len = kept.lease_len;
      lease_by = kept.lease_by;
      cells_len = ap length c.write_all.ensures.ok ∙ written_length a.cells.slots a.written piece fits ∙ kept.cells_len;
      room = omega (arith, kept.cells_len);
      filled = front ∙ sym (ap (λ (xs : List ℕ). map Some xs) (ap held_bytes front ∙ bytes_back (old ++ piece)));
    }

pub returns-clause-ok : goal.returns-clause-ok
returns-clause-ok c =
    let a = c.self.inside in
    let kept = c.self.invariant in
    let piece = c.args.piece.now in
    let old = held_bytes (take a.written a.cells.slots) in
    let many : length old ≡ a.written = filled_length a.cells.slots a.written old (omega (arith, kept.room, kept.cells_len)) kept.filled in
    let room = rw (← c.self.view_is) at c.requires.room in
    let fits : a.written + length piece ≤ length a.cells.slots = omega (arith, kept.cells_len) in
    ap held_bytes (ap (take (a.written + length piece)) c.write_all.ensures.ok ∙ written_bytes a.cells.slots a.written piece fits old kept.filled)
    ∙ bytes_back (old ++ piece)
    ∙ ap (λ (v : ChunkView). v.bytes ++ piece) c.self.view_is
