use Rattle.std.proofs.Common.{◌≡◌, ℕ, length, refl, sym, ap, ◌∙◌, subst}
use Rattle.std.proofs.lemmas.List.{length-replicate}
use Rattle.strat_base.specs.Tree.{Parents}
use Rattle.strat_tree.specs.Preorder.{IsPreorder}
use Rattle.strat_check.proofs.SightLemmas.{none_sighted}
use Rattle.strat_check.proofs.sights.Sights.new.Goals as goal

pub returns-clause-ok : goal.returns-clause-ok
returns-clause-ok c =
    let parents : Parents = c.args.tree.now.parents in
    let n : ℕ = c.count-versions.result in
    let placed : IsPreorder (length c.in_ok-order.order.starts) parents c.number.new.self = c.number.ensures.ok parents (λ v lt. refl) in
    let own : length c.in_ok-own.own.items ≡ n = ap (λ xs. length xs) c.in_ok-own.ensures.ok ∙ length-replicate n 0 in
    none_sighted parents n _ c.in_ok-own.ensures.ok c.in_ok-hidden.ensures.ok c.in_ok-hidden_weight.ensures.ok
    (subst (λ (k : ℕ). IsPreorder k parents c.number.new.self) (c.in_ok-order.ensures.len ∙ sym own) placed)

pub returns-clause-kept : goal.returns-clause-kept
returns-clause-kept c =
    subst (λ (k : ℕ). IsPreorder k c.args.tree.now.parents c.number.new.self) (c.in_ok-order.ensures.len ∙ c.count-versions.ensures.ok)
    (c.number.ensures.ok c.args.tree.now.parents (λ v lt. refl))
