use Rattle.std.proofs.Common.{◌≡◌, ◌≤◌, ℕ, List, length, sym, ap, ◌∙◌, subst, arith}
use Rattle.std.specs.Vec.{with_items}
use Rattle.std.proofs.lemmas.List.{with_items_is}
use Rattle.strat_base.specs.Tree.{Parents}
use Rattle.strat_check.specs.Sightings.{Sightings}
use Rattle.strat_check.specs.SightFields.{sightings_of}
use Rattle.strat_check.specs.Sums.{AreWeighed, AreSumsOf}
use Rattle.strat_check.proofs.SightLemmas.{sight_finished}
use Rattle.strat_check.proofs.sights.Sights.finish.Goals as goal

pub returns-clause-ok : goal.returns-clause-ok
returns-clause-ok c =
    let n : ℕ = length c.self.inside.own.items in
    let parents : Parents = c.args.tree.now.parents in
    let known : length c.self.inside.own.items ≡ length c.args.tree.now.parents = subst (λ (s : Sightings). length s.own ≡ length c.args.tree.now.parents) (sym c.self.view_is) c.requires.len in
    let few : length c.args.tree.now.parents ≤ 16384 = omega (arith, c.count.ensures.ok, c.count.ensures.room, c.count.ensures.fits) in
    let gained : c.deref_mut.result.now ≡ c.self.inside.own.items = c.deref_mut.ensures.value ∙ c.copy_from_slice.ensures.items ∙ c.deref.ensures.value in
    let seen_is : (with_items c.copy_from_slice.new.self c.sum_down.new.sums).items ≡ c.sum_down.new.sums = with_items_is c.copy_from_slice.new.self c.sum_down.new.sums (omega (arith, c.sum_down.auto.sums, c.deref_mut.ensures.len)) in
    let seen_summed : AreSumsOf parents c.self.inside.own.items c.self.inside.hidden.items c.sum_down.new.sums n =
    subst (λ (ps : Parents). AreSumsOf ps c.self.inside.own.items c.self.inside.hidden.items c.sum_down.new.sums n) c.parents.ensures.ok
    (subst (λ (ns : List ℕ). AreSumsOf c.parents.result.now c.self.inside.own.items ns c.sum_down.new.sums n) c.deref-2.ensures.value
    (subst (λ (ns : List ℕ). AreSumsOf c.parents.result.now ns c.deref-2.result.now c.sum_down.new.sums (length ns)) gained c.sum_down.ensures.ok)) in
    let weights_now : length c.weigh.new.weights ≡ n = c.weigh.auto.weights ∙ ap (λ (ns : List ℕ). length ns) c.deref_mut-2.ensures.value ∙ c.self.invariant.weight_len in
    let weighed : AreWeighed c.self.inside.own.items c.weigh.new.weights n = subst (λ (ns : List ℕ). AreWeighed ns c.weigh.new.weights (length ns)) c.deref-3.ensures.value c.weigh.ensures.ok in
    let inner_is : (with_items c.self.inside.weight c.weigh.new.weights).items ≡ c.weigh.new.weights = with_items_is c.self.inside.weight c.weigh.new.weights (omega (arith, c.weigh.auto.weights, c.deref_mut-2.ensures.len)) in
    let gains : c.deref_mut-3.result.now ≡ c.weigh.new.weights = c.deref_mut-3.ensures.value ∙ inner_is in
    let weight_is : (with_items (with_items c.self.inside.weight c.weigh.new.weights) c.sum_down-2.new.sums).items ≡ c.sum_down-2.new.sums = with_items_is (with_items c.self.inside.weight c.weigh.new.weights) c.sum_down-2.new.sums (omega (arith, c.sum_down-2.auto.sums, c.deref_mut-3.ensures.len)) in
    let weight_summed : AreSumsOf parents c.weigh.new.weights c.self.inside.hidden_weight.items c.sum_down-2.new.sums n =
    subst (λ (k : ℕ). AreSumsOf parents c.weigh.new.weights c.self.inside.hidden_weight.items c.sum_down-2.new.sums k) weights_now
    (subst (λ (ps : Parents). AreSumsOf ps c.weigh.new.weights c.self.inside.hidden_weight.items c.sum_down-2.new.sums (length c.weigh.new.weights)) c.parents-2.ensures.ok
    (subst (λ (ns : List ℕ). AreSumsOf c.parents-2.result.now c.weigh.new.weights ns c.sum_down-2.new.sums (length c.weigh.new.weights)) c.deref-4.ensures.value
    (subst (λ (ns : List ℕ). AreSumsOf c.parents-2.result.now ns c.deref-4.result.now c.sum_down-2.new.sums (length ns)) gains c.sum_down-2.ensures.ok))) in
    rw (← c.self.view_is, seen_is, weight_is) (λ groups sighting bound.
    sight_finished parents c.count.ensures.kept groups (sightings_of c.self.inside) c.sum_down.new.sums c.weigh.new.weights c.sum_down-2.new.sums few known sighting bound seen_summed weighed weight_summed)
