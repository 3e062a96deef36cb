use Rattle.std.proofs.Common.{◌≡◌, List, ℕ, ◌+◌, ◌++◌, length, ap, ◌∙◌, arith}
use Rattle.std.specs.Fmt.{decimal}
use Rattle.strat_model.specs.Spelling.{counted}
use Rattle.def_texts.specs.Workload.{drawn_key}
use Rattle.strat_serve.proofs.FramingLemmas.{framed_put}
use Rattle.strat_serve.proofs.framing.write_put.Goals as goal

pub returns : goal.returns
returns c =
    let value = c.as_bytes-value.result.now in
    let key : List ℕ = drawn_key c.args.key in
    let text : value ≡ decimal c.args.i = c.as_bytes-value.ensures.value ∙ c.format.ensures.text in
    framed_put (17 + length value) c.args.i c.args.version key (decimal c.args.i) c.put_counted.new.out.items (omega (arith, ap length text))
    (c.put_counted.ensures.ok ∙ (λ j. c.put_key.ensures.ok j ++ counted (text j)) ∙ ap (λ (x : List ℕ). (x ++ counted key) ++ counted (decimal c.args.i)) c.begin.ensures.ok)
