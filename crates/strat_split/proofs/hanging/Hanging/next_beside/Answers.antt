use Rattle.std.proofs.Common.{◌≡◌, ◌<◌, ◌+◌, ℕ, List, length, get_or, None, sym, ◌∙◌, ap, subst, arith}
use Rattle.std.proofs.lemmas.List.{get_or_read}
use Rattle.std.proofs.lemmas.Option.{IfSome_then}
use Rattle.strat_split.specs.Hanging.{first_hanging}
use Rattle.strat_split.proofs.ChainLemmas.{found_as}
use Rattle.strat_split.proofs.hanging.Hanging.next_beside.Goals as goal

pub returns-clause-found : goal.returns-clause-found
returns-clause-found c =
    let lt : c.args.q < length c.self.inside.carriers.items = subst (λ (xs : List ℕ). c.args.q < length xs) (sym c.self.view_is) c.requires.0 in
    let carried : get_or c.self.inside.carriers.items c.args.q 0 < length c.self.inside.carriers.items = subst (λ (xs : List ℕ). get_or xs c.args.q 0 < length xs) (sym c.self.view_is) c.requires.1 in
    let is : c.index.result.now ≡ first_hanging c.args.self.now (get_or c.args.self.now c.args.q 0) (c.args.q + 1) = get_or_read c.self.inside.nexts.items c.args.q c.index.result.now (omega (arith, c.self.invariant.linked.nexts_len)) c.index.ensures None ∙ c.self.invariant.linked.next c.args.q (omega arith) lt (omega (arith, c.self.invariant.firsts_len)) ∙ ap (λ (xs : List ℕ). first_hanging xs (get_or xs c.args.q 0) (c.args.q + 1)) c.self.view_is in
    IfSome_then c.index.result.now (found_as c.args.self.now (get_or c.args.self.now c.args.q 0) (c.args.q + 1) c.index.result.now is) (λ r found. let le = found.0 in (omega arith, found.1, found.2))
