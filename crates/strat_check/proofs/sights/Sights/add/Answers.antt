use Rattle.std.proofs.Common.{◌≡◌, ◌≤◌, ℕ, suc, eqb, List, length, sym, ap, ◌∙◌, subst, arith}
use Rattle.std.specs.List.{count_by}
use Rattle.std.specs.Vec.{with_items}
use Rattle.std.proofs.lemmas.List.{with_items_is}
use Rattle.strat_base.specs.Tree.{Parents}
use Rattle.strat_tree.specs.Preorder.{Numbering, IsPreorder}
use Rattle.strat_check.specs.Sightings.{Sightings, weight_lost}
use Rattle.strat_check.specs.SightFields.{sightings_of}
use Rattle.strat_check.specs.Sums.{HaveGrown}
use Rattle.strat_check.proofs.SightLemmas.{sight_added}
use Rattle.strat_check.proofs.sights.Sights.add.Goals as goal

pub returns-clause-ok : goal.returns-clause-ok
returns-clause-ok c =
    let n : ℕ = length c.self.inside.own.items in
    let parents : Parents = c.args.tree.now.parents in
    let order : Numbering = c.self.inside.order in
    let versions : List ℕ = c.args.versions.now in
    let own_now : length c.add_own.new.own ≡ length c.self.inside.own.items = c.add_own.auto.own ∙ ap (λ (ns : List ℕ). length ns) c.deref_mut.ensures.value in
    let own_is : (with_items c.self.inside.own c.add_own.new.own).items ≡ c.add_own.new.own = with_items_is c.self.inside.own c.add_own.new.own (omega (arith, c.add_own.auto.own, c.deref_mut.ensures.len)) in
    let hidden_is : (with_items c.self.inside.hidden c.hide_each.new.hidden).items ≡ c.hide_each.new.hidden = with_items_is c.self.inside.hidden c.hide_each.new.hidden (omega (arith, c.hide_each.auto.hidden, c.deref_mut-2.ensures.len)) in
    let weights_is : (with_items c.self.inside.hidden_weight c.hide_each.new.weights).items ≡ c.hide_each.new.weights = with_items_is c.self.inside.hidden_weight c.hide_each.new.weights (omega (arith, c.hide_each.auto.weights, c.deref_mut-3.ensures.len)) in
    let known : length c.self.inside.own.items ≡ length c.args.tree.now.parents = subst (λ (s : Sightings). length s.own ≡ length c.args.tree.now.parents) (sym c.self.view_is) c.requires.len in
    let few : length c.args.tree.now.parents ≤ 16384 = omega (arith, c.count.ensures.ok, c.count.ensures.room, c.count.ensures.fits) in
    let hidden_len : length c.deref_mut-2.result.now ≡ n = ap (λ (ns : List ℕ). length ns) c.deref_mut-2.ensures.value ∙ c.self.invariant.hidden_len in
    rw (← c.self.view_is, own_is, hidden_is, weights_is) (λ groups sighting bound.
    let placed : IsPreorder n parents order = sighting.placed in
    let there : IsPreorder (length c.deref_mut-2.result.now) parents order = subst (λ (k : ℕ). IsPreorder k parents order) (sym hidden_len) placed in
    sight_added parents c.count.ensures.kept groups versions (sightings_of c.self.inside) c.add_own.new.own c.hide_each.new.hidden c.hide_each.new.weights order few known own_now c.self.invariant.hidden_len c.self.invariant.hidden_weight_len c.requires.kept sighting bound
    (subst (λ (ns : List ℕ). HaveGrown (λ v. count_by (λ u. eqb u v) versions) ns c.add_own.new.own) c.deref_mut.ensures.value c.add_own.ensures.ok)
    (subst (λ (ns : List ℕ). HaveGrown (λ v. weight_lost parents (λ u. 1) v versions) ns c.hide_each.new.hidden) c.deref_mut-2.ensures.value (c.hide_each.ensures.ok parents c.count.ensures.kept there))
    (subst (λ (ns : List ℕ). HaveGrown (λ v. weight_lost parents suc v versions) ns c.hide_each.new.weights) c.deref_mut-3.ensures.value (c.hide_each.ensures.state parents c.count.ensures.kept there))
    placed)
