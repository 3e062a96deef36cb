use Rattle.std.proofs.Common.{List, ℕ, ◌++◌, ap, ◌∙◌, arith}
use Rattle.strat_model.specs.Spelling.{counted}
use Rattle.def_texts.specs.Workload.{drawn_key}
use Rattle.strat_serve.proofs.FramingLemmas.{framed, length-counted}
use Rattle.strat_serve.proofs.framing.write_delete.Goals as goal

pub returns : goal.returns
returns c =
    let field : List ℕ = counted (drawn_key c.args.key) in
    c.put_key.ensures.ok ∙ ap (λ (x : List ℕ). x ++ field) c.begin.ensures.ok
    ∙ framed 15 c.args.i 2 c.args.version field (omega (arith, length-counted (drawn_key c.args.key)))
