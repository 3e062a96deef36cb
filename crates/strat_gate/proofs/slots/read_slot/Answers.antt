use Rattle.std.proofs.Common.{◌≡◌, ap, sym, ◌∙◌}
use Rattle.def_crash.specs.Image.{Image, window}
use Rattle.def_bytes.specs.SuperBlock.{slot_of, slot_in}
use Rattle.def_crash.proofs.MomentLemmas.{at_told}
use Rattle.strat_gate.proofs.slots.read_slot.Goals as goal

pub returns-clause-ok : goal.returns-clause-ok
unfolding slot_in
returns-clause-ok g c = λ f exposed.
    let into = c.read_at.new.into in
    let read : into ≡ window f c.args.at 40 = at_told _ (λ (f : Image). into ≡ window f c.args.at 40) f exposed c.in_ok-read_at.ensures.ok in
    ap slot_of (sym read) ∙ sym c.parse.ensures
