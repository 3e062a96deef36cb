use Rattle.std.proofs.Common.{◌≡◌, ◌≤◌, ◌+◌, ◌-◌, ℕ, suc, true, cond, eqb, get_or, take, drop, List, length, ◌∙◌, subst, arith}
use Rattle.std.specs.List.{sum_by}
use Rattle.strat_check.specs.declared.bare.Bare.{Bare}
use Rattle.strat_check.specs.Bares.{are_bare_below, are_in_order, is_place_of}
use Rattle.strat_check.specs.Sums.{HaveGrown}
use Rattle.strat_check.proofs.BareLemmas.{below_part, below_replaced}
use Rattle.strat_check.proofs.HideLemmas.{lost_all, hidden_more, version_below, few_versions}
use Rattle.strat_check.proofs.sights.hide_each.Goals as goal

pub grow_each-requires : goal.grow_each-requires
grow_each-requires c =
    let below : are_bare_below (length c.loop-u.hidden) c.deref-in-loop-u-2.result.now ≡ true = (λ i. are_bare_below (c.loop-u.auto.hidden i) (c.deref-in-loop-u-2.ensures.value i)) ∙ c.loop-u.invariant.below in
    record { fits = below_part (length c.loop-u.hidden) c.deref-in-loop-u-2.result.now c.count_from-from.result (c.count_from-from.result + c.count_from.result - c.count_from-from.result) below }

pub grow_each-requires-in-loop-u : goal.grow_each-requires-in-loop-u
grow_each-requires-in-loop-u c =
    let same : length c.loop-u.weights ≡ length c.args.hidden.now = c.loop-u.auto.weights ∙ c.requires.len in
    let below : are_bare_below (length c.loop-u.weights) c.deref-in-loop-u-3.result.now ≡ true = (λ i. are_bare_below (same i) (c.deref-in-loop-u-3.ensures.value i)) ∙ c.loop-u.invariant.below in
    record { fits = below_part (length c.loop-u.weights) c.deref-in-loop-u-3.result.now c.count_from-from.result (c.count_from-from.result + c.count_from.result - c.count_from-from.result) below }

pub replace-requires-clause-room : goal.replace-requires-clause-room
replace-requires-clause-room c =
    let few : length c.args.versions.now ≤ length c.args.hidden.now = few_versions c.args.versions.now (length c.args.hidden.now) c.requires.kept c.requires.fits in
    omega (arith, few, c.loop-u.invariant.held, c.loop-u.invariant.room, c.requires.room)

pub loop-u-preserved : goal.loop-u-preserved
loop-u-preserved c =
    let u : ℕ = get_or c.args.versions.now c.loop-u.u-index 0 in
    let from : ℕ = c.count_from-from.result in
    let m : ℕ = c.count_from.result in
    let joined : Bare = record { start = c.start-start.result; version = get_or c.args.versions.now c.loop-u.u-index 0 } in
    let known = version_below c.args.versions.now (length c.args.hidden.now) c.loop-u.u-index c.requires.fits c.loop-u-test.true in
    record {
      below = rw c.replace.ensures.ok (below_replaced (length c.args.hidden.now) c.loop-u.bare.items from (from + m) joined c.loop-u.invariant.below known);
      held = omega (arith, c.replace.ensures.len, c.loop-u.invariant.held);
      room = omega (arith, c.replace.ensures.kept, c.loop-u.invariant.room);
      right = λ parents tree placed. rw c.replace.ensures.ok (hidden_more parents tree c.args.order.now c.args.versions.now c.loop-u.u-index c.loop-u.bare.items c.args.hidden.now c.args.weights.now c.loop-u.hidden c.loop-u.weights (c.loop-u.invariant.right parents tree placed)
          (length c.args.hidden.now) placed c.requires.kept c.requires.fits c.loop-u-test.true from m c.start-start.result c.end.result c.start-start.ensures.ok c.end.ensures.ok
          (subst (λ (bs : List Bare). are_in_order bs ≡ true → is_place_of bs c.end.result c.count_from-from.result ≡ true) c.deref.ensures.value c.count_from-from.ensures.ok)
          (subst (λ (bs : List Bare). are_in_order (take (length bs - c.count_from-from.result) (drop c.count_from-from.result bs)) ≡ true → is_place_of (take (length bs - c.count_from-from.result) (drop c.count_from-from.result bs)) c.start-start.result c.count_from.result ≡ true) c.deref-in-loop-u.ensures.value c.count_from.ensures.ok)
          c.loop-u.auto.hidden c.loop-u.auto.weights c.grow_each.new.numbers c.grow_each-in-loop-u.new.numbers
          (subst (λ (bs : List Bare). HaveGrown (λ v. sum_by (λ (b : Bare). cond (eqb b.version v) 1 0) (take (c.count_from-from.result + c.count_from.result - c.count_from-from.result) (drop c.count_from-from.result bs))) c.loop-u.hidden c.grow_each.new.numbers) c.deref-in-loop-u-2.ensures.value c.grow_each.ensures.ok)
          (subst (λ (bs : List Bare). HaveGrown (λ v. sum_by (λ (b : Bare). cond (eqb b.version v) (get_or c.args.versions.now c.loop-u.u-index 0 + 1) 0) (take (c.count_from-from.result + c.count_from.result - c.count_from-from.result) (drop c.count_from-from.result bs))) c.loop-u.weights c.grow_each-in-loop-u.new.numbers) c.deref-in-loop-u-3.ensures.value c.grow_each-in-loop-u.ensures.ok));
    }

pub returns-clause-ok : goal.returns-clause-ok
returns-clause-ok c = λ parents tree placed.
    let have = c.loop-u.invariant.right parents tree placed in
    lost_all parents tree c.args.order.now c.args.versions.now c.loop-u.u-index c.loop-u.bare.items have.passed c.loop-u-test.false (λ u. 1) c.args.hidden.now c.loop-u.hidden have.count

pub returns-clause-state : goal.returns-clause-state
returns-clause-state c = λ parents tree placed.
    let have = c.loop-u.invariant.right parents tree placed in
    lost_all parents tree c.args.order.now c.args.versions.now c.loop-u.u-index c.loop-u.bare.items have.passed c.loop-u-test.false suc c.args.weights.now c.loop-u.weights have.weight
