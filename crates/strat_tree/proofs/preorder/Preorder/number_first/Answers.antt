use Rattle.std.proofs.Common.{arith, ◌≡◌, ◌∙◌, ℕ, List, length, get_or, ap}
use Rattle.std.proofs.lemmas.List.{with_items_is}
use Rattle.strat_tree.proofs.PreorderLemmas.{ancestors_span}
use Rattle.strat_tree.proofs.preorder.Preorder.number_first.Goals as goal

pub returns-clause-ok : goal.returns-clause-ok
returns-clause-ok c =
    let n : ℕ = length c.self.inside.starts.items in
    let ends_len : length c.deref_mut-2.result.now ≡ n = ap (λ (x : List ℕ). length x) c.deref_mut-2.ensures.value ∙ c.self.invariant in
    let starts_len : length c.deref_mut.result.now ≡ n = ap (λ (x : List ℕ). length x) c.deref_mut.ensures.value in
    let new_starts : length c.put_first_in_order.new.starts ≡ n = c.put_first_in_order.auto.starts ∙ starts_len in
    let new_ends : length c.put_first_in_order.new.ends ≡ n = c.put_first_in_order.auto.ends ∙ ends_len in
    let starts_is = with_items_is c.self.inside.starts c.put_first_in_order.new.starts (omega arith) in
    let ends_is = with_items_is c.self.inside.ends c.put_first_in_order.new.ends (omega arith) in
    rw (starts_is, ends_is) (ancestors_span c.args.parents.now c.requires.kept (length c.args.parents.now) (omega arith) (λ w. get_or c.put_first_in_order.new.starts w 0) (λ w. get_or c.put_first_in_order.new.ends w 0) c.put_first_in_order.ensures.ok)
