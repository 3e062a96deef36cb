use Rattle.std.proofs.Common.{ℕ, List, Option, Some, get_or, set, take, ap, ◌∙◌, arith}
use Rattle.strat_arena.specs.Filled.{with_bytes}
use Rattle.strat_arena.proofs.FilledLemmas.{one_written}
use Rattle.strat_arena.proofs.chunk.write_all.Goals as goal

pub loop-byte-preserved : goal.loop-byte-preserved
loop-byte-preserved c =
    let slots = c.args.cells.now.slots in
    let from = c.args.from in
    let piece = c.args.piece.now in
    let i = c.loop-byte.byte-index in
    let byte : Option ℕ = Some (get_or piece i 0) in
    record {
      counted = omega arith;
      same = c.write.ensures.0 ∙ c.loop-byte.invariant.same;
      slots = c.write.ensures.1
          ∙ ap (λ (cells : List (Option ℕ)). set cells c.loop-byte.at byte) c.loop-byte.invariant.slots
          ∙ ap (λ (n : ℕ). set (with_bytes slots from (take i piece)) n byte) c.loop-byte.invariant.counted
          ∙ one_written slots from piece i 0 c.loop-byte-test.true c.requires.1;
    }
