use Rattle.std.proofs.Common.{List, ℕ, ◌++◌, ap, ◌∙◌, arith}
use Rattle.strat_base.specs.Numbers.{be}
use Rattle.strat_base.proofs.NumberLemmas.{placed_whole, length-be}
use Rattle.strat_serve.proofs.framing.put_number.Goals as goal

pub returns-clause-ok : goal.returns-clause-ok
returns-clause-ok c = c.put.ensures.ok ∙ ap (λ (x : List ℕ). c.args.out.now.items ++ x) (c.put_u32.ensures ∙ placed_whole _ (be 4 c.args.n) (omega (arith, length-be 4 c.args.n)))
