use Rattle.std.proofs.Common.{◌≡◌, List, ℕ, ◌++◌, length, ap, ◌∙◌, append_assoc, arith}
use Rattle.strat_base.specs.Numbers.{be}
use Rattle.strat_base.proofs.NumberLemmas.{placed_whole, length-be}
use Rattle.strat_serve.proofs.framing.put_counted.Goals as goal

pub returns-clause-ok : goal.returns-clause-ok
returns-clause-ok c =
    let out = c.args.out.now.items in
    let bytes = c.args.bytes.now in
    let number : c.put_u16.new.into ≡ be 2 (length bytes) = c.put_u16.ensures ∙ placed_whole _ (be 2 (length bytes)) (omega (arith, length-be 2 (length bytes))) in
    c.put-2.ensures.ok ∙ ap (λ (x : List ℕ). x ++ bytes) (c.put.ensures.ok ∙ ap (λ (x : List ℕ). out ++ x) number)
    ∙ append_assoc out (be 2 (length bytes)) bytes
