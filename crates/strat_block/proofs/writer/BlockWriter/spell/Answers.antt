use Rattle.std.proofs.Common.{◌≡◌, ◌<◌, ◌+◌, ◌*◌, ℕ, List, length, take, replicate, subst, sym, ap, ◌∙◌}
use Rattle.strat_base.specs.Entries.{Entry}
use Rattle.strat_base.specs.Numbers.{be, placed}
use Rattle.def_bytes.specs.Block.{IsBlock}
use Rattle.def_bytes.proofs.BlockLemmas.{block_in-bytes}
use Rattle.strat_block.specs.Collected.{shifted, collected}
use Rattle.strat_block.proofs.WriterLemmas.{starts_fit, block_written}
use Rattle.strat_block.proofs.writer.BlockWriter.spell.Goals as goal

pub put_offsets-requires-clause-fits : goal.put_offsets-requires-clause-fits
put_offsets-requires-clause-fits c = starts_fit _ _ _ _ _ c.self.invariant

written : (c : goal.After-block-6-1) → IsBlock c.put_part.new.into c.args.self.now
written c =
    let w = c.self.inside in
    let some : 0 < length (collected w.count w.text) = subst (λ (x : List Entry). 0 < length x) (sym c.self.view_is) c.requires in
    let first : ℕ = 2 + 2 * w.count in
    let made : c.put_part.new.into ≡ placed (placed (placed (replicate 4096 0) 0 (be 2 w.count)) 2 (shifted first (take w.count w.starts))) first (take w.used w.text) =
    c.put_part.ensures.ok
    ∙ ap (λ (x : List ℕ). placed x first (take w.used w.text)) (c.put_offsets.ensures.ok ∙ ap (λ (x : List ℕ). placed x 2 (shifted first (take w.count w.starts))) c.put_u16.ensures) in
    subst (IsBlock c.put_part.new.into) c.self.view_is (block_written (collected w.count w.text) w.count w.used w.starts w.text c.self.invariant some c.put_part.new.into made)

pub returns-clause-kept : goal.returns-clause-kept
returns-clause-kept c = written c

pub returns-clause-ok : goal.returns-clause-ok
returns-clause-ok c = block_in-bytes c.put_part.new.into c.args.self.now (written c)
