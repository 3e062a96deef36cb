use Rattle.std.proofs.Common.{◌≡◌, ◌<◌, ℕ, List, length, None, sym, ◌∙◌, ap, subst, arith}
use Rattle.std.proofs.lemmas.List.{get_or_read}
use Rattle.std.proofs.lemmas.Option.{IfSome_then}
use Rattle.strat_split.specs.Hanging.{first_hanging}
use Rattle.strat_split.proofs.ChainLemmas.{found_as}
use Rattle.strat_split.proofs.hanging.Hanging.first_below.Goals as goal

pub returns-clause-found : goal.returns-clause-found
returns-clause-found c =
    let lt : c.args.part < length c.self.inside.carriers.items = subst (λ (xs : List ℕ). c.args.part < length xs) (sym c.self.view_is) c.requires in
    let is : c.index.result.now ≡ first_hanging c.args.self.now c.args.part 0 = get_or_read c.self.inside.firsts.items c.args.part c.index.result.now (omega (arith, c.self.invariant.firsts_len)) c.index.ensures None ∙ c.self.invariant.linked.first c.args.part (omega (arith, c.self.invariant.firsts_len)) ∙ ap (λ (xs : List ℕ). first_hanging xs c.args.part 0) c.self.view_is in
    IfSome_then c.index.result.now (found_as c.args.self.now c.args.part 0 c.index.result.now is) (λ r found. (found.1, found.2))
