use Rattle.std.proofs.Common.{◌≡◌, ◌≤◌, ◌+◌, ℕ, true, List, length, sum, sym, ap, ◌∙◌, subst, refl, arith}
use Rattle.std.specs.Vec.{with_items}
use Rattle.std.proofs.lemmas.List.{with_items_is}
use Rattle.strat_base.specs.Tree.{Parents}
use Rattle.strat_tree.specs.Preorder.{Numbering, IsPreorder}
use Rattle.strat_live.specs.Tallies.{Tallies}
use Rattle.strat_live.specs.CountFields.{tallies_of}
use Rattle.strat_live.specs.Counting.{item_versions, are_below, tallied, SameParents, AreAdded}
use Rattle.strat_live.proofs.CountingLemmas.{small_added, own_sum, tally_added, order_moved, descends_from, below_from}
use Rattle.strat_live.proofs.counts.Counts.add.Goals as goal

own_is : (c : goal.After-self-2-1) → (with_items c.self.inside.own c.add_own.new.own).items ≡ tallied c.self.inside.own.items (item_versions c.args.group.now)
own_is c =
    let len : length c.add_own.new.own ≡ c.self.inside.own.len = omega (arith, c.add_own.auto.own, c.deref_mut.ensures.len) in
    with_items_is c.self.inside.own c.add_own.new.own len ∙ c.add_own.ensures.ok ∙ ap (λ (ns : List ℕ). tallied ns (item_versions c.args.group.now)) c.deref_mut.ensures.value

begun_is : (c : goal.After-self-2-1) → (with_items c.self.inside.begun c.add_begun.new.begun).items ≡ c.add_begun.new.begun
begun_is c =
    let len : length c.add_begun.new.begun ≡ c.self.inside.begun.len = omega (arith, c.add_begun.auto.begun, c.deref_mut-2.ensures.len) in
    with_items_is c.self.inside.begun c.add_begun.new.begun len

below : (c : goal.After-self-2-1) → are_below (length c.self.inside.own.items) c.args.group.now ≡ true
below c = subst (λ (t : Tallies). are_below (length t.own) c.args.group.now ≡ true) (sym c.self.view_is) c.requires.fits

few : (c : goal.After-self-2-1) → sum c.self.inside.own.items + length c.args.group.now ≤ 16777216
few c = subst (λ (t : Tallies). sum t.own + length c.args.group.now ≤ 16777216) (sym c.self.view_is) c.requires.room

own_len : (c : goal.After-self-2-1) → length (with_items c.self.inside.own c.add_own.new.own).items ≡ length c.self.inside.own.items
own_len c = ap (λ (ns : List ℕ). length ns) (with_items_is c.self.inside.own c.add_own.new.own (omega (arith, c.add_own.auto.own, c.deref_mut.ensures.len))) ∙ c.add_own.auto.own ∙ ap (λ (ns : List ℕ). length ns) c.deref_mut.ensures.value

pub invariant_of-self : goal.invariant_of-self
invariant_of-self c =
    let begun_len : length c.add_begun.new.begun ≡ length c.self.inside.begun.items = c.add_begun.auto.begun ∙ ap (λ (ns : List ℕ). length ns) c.deref_mut-2.ensures.value in
    let more : sum c.add_begun.new.begun ≤ sum c.self.inside.begun.items + length c.args.group.now = subst (λ (ns : List ℕ). sum c.add_begun.new.begun ≤ sum ns + length c.args.group.now) c.deref_mut-2.ensures.value c.add_begun.ensures.room in
    record {
      small = rw (own_is c, begun_is c) (small_added c.self.inside.own.items c.self.inside.begun.items c.self.inside.live.items c.add_begun.new.begun c.args.group.now c.self.invariant.small (below c) (few c) begun_len more);
      order_len = c.number_once.ensures.len ∙ c.self.invariant.order_len ∙ sym (own_len c);
      tops_room = omega (arith, own_len c, c.self.invariant.tops_room, c.add_begun.ensures.kept);
    }

pub returns-clause-ok : goal.returns-clause-ok
returns-clause-ok c =
    let n : ℕ = length c.self.inside.own.items in
    let begun_len : length c.deref_mut-2.result.now ≡ n = ap (λ (ns : List ℕ). length ns) c.deref_mut-2.ensures.value ∙ c.self.invariant.small.begun_len in
    let order_len : length c.self.inside.order.starts ≡ n = c.self.invariant.order_len in
    let others : Parents = c.args.tree.now.parents in
    let order : Numbering = c.number_once.new.order in
    rw (← c.self.view_is, own_is c, begun_is c, c.number_once.ensures.ok) (λ parents groups same tally.
    let here : IsPreorder n parents order = subst (λ (k : ℕ). IsPreorder k parents order) order_len (c.number_once.ensures.kept parents (subst (λ (k : ℕ). SameParents k parents others) (sym order_len) same) (λ yes'. subst (λ (k : ℕ). IsPreorder k parents c.self.inside.order) (sym order_len) (tally.placed yes'))) in
    let there : IsPreorder n others order = order_moved parents others c.count.ensures.kept n order same here in
    let added : AreAdded others (item_versions c.args.group.now) c.self.inside.begun.items c.add_begun.new.begun = subst (λ (ns : List ℕ). AreAdded others (item_versions c.args.group.now) ns c.add_begun.new.begun) c.deref_mut-2.ensures.value (c.add_begun.ensures.ok others c.count.ensures.kept (subst (λ (k : ℕ). IsPreorder k others order) (sym begun_len) there)) in
    tally_added parents others c.count.ensures.kept n groups (item_versions c.args.group.now) (tallies_of c.self.inside) c.add_begun.new.begun order same refl c.self.invariant.small.begun_len (descends_from c.args.group.now c.requires.kept) (below_from n c.args.group.now (below c)) tally added here)

pub returns-clause-room : goal.returns-clause-room
returns-clause-room c = rw (← c.self.view_is, own_is c) (own_sum c.self.inside.own.items c.args.group.now (below c))
