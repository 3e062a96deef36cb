use Rattle.std.proofs.Common.{◌≤◌, ◌++◌, ℕ, List, length, ap, sym, subst, ◌∙◌, arith}
use Rattle.strat_model.specs.Request.{Put}
use Rattle.strat_bulk.specs.Framing.{Framed}
use Rattle.strat_bulk.proofs.FramingLemmas.{next_tag, put_len, tagged}
use Rattle.strat_bulk.proofs.framing.PutFrames.put.Goals as goal

pub append-requires : goal.append-requires
append-requires c =
    let here = ap (λ (f : Framed). length f.bytes) c.self.view_is in
    let len : length c.bytes.result.now ≤ 1296 = subst (λ (l : List ℕ). length l ≤ 1296) (sym (c.bytes.ensures ∙ c.write_command.ensures.ok)) (put_len c.self.inside.tag c.args.key.now c.args.value.now c.requires.fits.key c.requires.fits.value) in
    record { room = omega (arith, here, len, c.requires.room, c.self.invariant) }

pub returns-clause-ok : goal.returns-clause-ok
returns-clause-ok c = λ n is.
    let bytes = c.bytes.ensures ∙ c.write_command.ensures.ok in
    let here = ap (λ (f : Framed). f.bytes) c.self.view_is in
    let tag = is ∙ sym (ap (λ (f : Framed). f.tag) c.self.view_is) in (
      c.append.ensures.ok ∙ ap (λ (l : List ℕ). l ++ c.bytes.result.now) here ∙ ap (λ (l : List ℕ). c.args.self.now.bytes ++ l) (bytes ∙ tagged n c.self.inside.tag (Put 0 c.args.key.now c.args.value.now) tag),
      next_tag n c.self.inside.tag tag,
    )

pub returns-clause-len : goal.returns-clause-len
returns-clause-len c =
    let here = ap (λ (f : Framed). length f.bytes) c.self.view_is in
    let len : length c.bytes.result.now ≤ 1296 = subst (λ (l : List ℕ). length l ≤ 1296) (sym (c.bytes.ensures ∙ c.write_command.ensures.ok)) (put_len c.self.inside.tag c.args.key.now c.args.value.now c.requires.fits.key c.requires.fits.value) in
    omega (arith, here, len, c.append.ensures.len)
