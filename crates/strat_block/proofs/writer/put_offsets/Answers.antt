use Rattle.std.proofs.Common.{◌+◌, ◌*◌, ℕ, List, get_or, ap, ◌∙◌, arith}
use Rattle.strat_base.specs.Numbers.{be, placed}
use Rattle.strat_block.proofs.WriterLemmas.{offset_put}
use Rattle.strat_block.proofs.writer.put_offsets.Goals as goal

pub loop-i-preserved : goal.loop-i-preserved
loop-i-preserved c =
    let i : ℕ = c.loop-i.i in
    c.put_u16.ensures
    ∙ ap (λ (x : List ℕ). placed x (2 + 2 * i) (be 2 (c.args.first + get_or c.args.starts.now i 0))) c.loop-i.invariant
    ∙ offset_put c.args.into.now c.args.starts.now c.args.first i (omega arith) c.requires.room
