use Rattle.std.proofs.Common.{arith, ◌≡◌, ◌≤◌, ◌∙◌, ℕ, List, length, get_or, sym, ap, subst}
use Rattle.std.proofs.lemmas.List.{with_items_is}
use Rattle.strat_base.specs.Tree.{Parents}
use Rattle.strat_tree.specs.Preorder.{Numbering}
use Rattle.strat_tree.specs.Intervals.{AreIntervals}
use Rattle.strat_tree.proofs.PreorderLemmas.{intervals_order}
use Rattle.strat_tree.proofs.preorder.Preorder.number.Goals as goal

pub returns-clause-ok : goal.returns-clause-ok
returns-clause-ok c =
    let n : ℕ = length c.self.inside.starts.items in
    let ends_len : length c.deref_mut-2.result.now ≡ n = ap (λ (x : List ℕ). length x) c.deref_mut-2.ensures.value ∙ c.self.invariant in
    let starts_len : length c.deref_mut.result.now ≡ n = ap (λ (x : List ℕ). length x) c.deref_mut.ensures.value in
    let new_starts : length c.put_in_order.new.starts ≡ n = c.put_in_order.auto.starts ∙ starts_len in
    let new_ends : length c.put_in_order.new.ends ≡ n = c.put_in_order.auto.ends ∙ ends_len in
    let few : n ≤ length c.args.tree.now.parents = subst (λ (o : Numbering). length o.starts ≤ length c.args.tree.now.parents) (sym c.self.view_is) c.requires.len in
    let starts_is = with_items_is c.self.inside.starts c.put_in_order.new.starts (omega arith) in
    let ends_is = with_items_is c.self.inside.ends c.put_in_order.new.ends (omega arith) in
    let laid : AreIntervals c.args.tree.now.parents n (λ v. get_or c.put_in_order.new.starts v 0) (λ v. get_or c.put_in_order.new.ends v 0)
    = subst (λ (ps : Parents). AreIntervals ps n (λ v. get_or c.put_in_order.new.starts v 0) (λ v. get_or c.put_in_order.new.ends v 0)) c.parents.ensures.ok
    (subst (λ (k : ℕ). AreIntervals c.parents.result.now k (λ v. get_or c.put_in_order.new.starts v 0) (λ v. get_or c.put_in_order.new.ends v 0)) ends_len c.put_in_order.ensures.ok) in
    rw (← c.self.view_is, starts_is, ends_is) (λ parents same.
    intervals_order parents c.args.tree.now.parents c.count.ensures.kept n same few c.put_in_order.new.starts c.put_in_order.new.ends new_starts new_ends laid)
