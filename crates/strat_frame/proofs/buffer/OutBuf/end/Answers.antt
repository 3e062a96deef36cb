use Rattle.std.proofs.Common.{◌≡◌, ℕ, ◌-◌, List, ap, ◌∙◌, drop, length, arith}
use Rattle.strat_base.specs.Numbers.{be, placed}
use Rattle.strat_model.specs.Stream.{frame}
use Rattle.strat_frame.proofs.FrameLemmas.{framed}
use Rattle.strat_frame.proofs.buffer.OutBuf.end.Goals as goal

pub returns : goal.returns
returns c =
    let bytes = c.self.inside.bytes.items in
    let len = c.self.inside.bytes.len in
    let len-is : len ≡ length bytes = omega (arith, c.deref_mut.ensures.len, ap length c.deref_mut.ensures.value) in
    let written : c.put_u32.new.into ≡ placed bytes 0 (be 4 (len - 4)) = c.put_u32.ensures ∙ (λ j. placed (c.deref_mut.ensures.value j) 0 (be 4 (c.len.ensures j - 4))) in
    framed bytes c.put_u32.new.into len (omega (arith, ap length c.self.view_is, c.requires.fits)) len-is written
    ∙ ap (λ (x : List ℕ). frame (drop 4 x)) c.self.view_is
