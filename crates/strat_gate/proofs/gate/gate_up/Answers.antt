use Rattle.std.proofs.Common.{◌≡◌, ◌==◌, ℕ, ◌+◌, List, get_or, ap, ◌∙◌, arith}
use Rattle.def_crash.specs.Image.{Image, window}
use Rattle.def_crash.proofs.ImageLemmas.{window_at}
use Rattle.def_crash.proofs.MomentLemmas.{at_told}
use Rattle.strat_gate.proofs.gate.gate_up.Goals as goal

pub returns-clause-ok : goal.returns-clause-ok
returns-clause-ok g c = λ f exposed.
    let into = c.read_at.new.into in
    let read : into ≡ window f c.args.at 1 = at_told _ (λ (f : Image). into ≡ window f c.args.at 1) f exposed c.in_ok-read_at.ensures.ok in
    let here : c.args.at + 0 ≡ c.args.at = omega arith in
    let byte : get_or into 0 0 ≡ f c.args.at = ap (λ (l : List ℕ). get_or l 0 0) read ∙ window_at f c.args.at 1 0 (omega arith) ∙ ap f here in
    ap (λ (n : ℕ). n == 167) byte
