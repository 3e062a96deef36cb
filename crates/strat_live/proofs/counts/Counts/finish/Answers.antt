use Rattle.std.proofs.Common.{◌≡◌, ◌≤◌, ℕ, List, length, sym, ap, subst, arith}
use Rattle.std.specs.Vec.{with_items}
use Rattle.std.proofs.lemmas.List.{with_items_is}
use Rattle.strat_base.specs.Tree.{Parents}
use Rattle.strat_live.specs.Tallies.{Tallies}
use Rattle.strat_live.specs.Counting.{AreSummed}
use Rattle.strat_live.proofs.CountingLemmas.{small_summed, finished}
use Rattle.strat_live.proofs.counts.Counts.finish.Goals as goal

live_is : (c : goal.After-self-1) → (with_items c.self.inside.live c.sum_down.new.live).items ≡ c.sum_down.new.live
live_is c =
    let len : length c.sum_down.new.live ≡ c.self.inside.live.len = omega (arith, c.sum_down.auto.live, c.deref_mut.ensures.len) in
    with_items_is c.self.inside.live c.sum_down.new.live len

summed : (c : goal.After-self-1) → AreSummed c.args.tree.now.parents c.self.inside.begun.items c.sum_down.new.live (length c.self.inside.begun.items)
summed c = subst (λ (begun : List ℕ). AreSummed c.args.tree.now.parents begun c.sum_down.new.live (length begun)) c.deref.ensures.value (subst (λ (parents : Parents). AreSummed parents c.deref.result.now c.sum_down.new.live (length c.deref.result.now)) c.parents.ensures.ok c.sum_down.ensures.ok)

few : (c : goal.After-self-1) → length c.self.inside.begun.items ≤ length c.args.tree.now.parents
few c =
    let le : length c.self.inside.own.items ≤ length c.args.tree.now.parents = subst (λ (t : Tallies). length t.own ≤ length c.args.tree.now.parents) (sym c.self.view_is) c.requires.len in
    let same = c.self.invariant.small.begun_len in
    omega arith

pub invariant_of-self : goal.invariant_of-self
invariant_of-self c =
    let len : length c.sum_down.new.live ≡ length c.self.inside.live.items = omega (arith, c.sum_down.auto.live, ap (λ (ns : List ℕ). length ns) c.deref_mut.ensures.value) in
    record {
      small = rw (live_is c) (small_summed c.args.tree.now.parents c.parents.ensures.kept c.self.inside.own.items c.self.inside.begun.items c.self.inside.live.items c.sum_down.new.live c.self.invariant.small len (few c) (summed c));
      order_len = c.self.invariant.order_len;
      tops_room = c.self.invariant.tops_room;
    }

pub returns-clause-ok : goal.returns-clause-ok
returns-clause-ok c =
    rw (← c.self.view_is, live_is c) (λ parents groups same tally.
    finished c.args.tree.now.parents c.parents.ensures.kept parents groups c.self.inside.own.items c.self.inside.begun.items c.self.inside.live.items c.sum_down.new.live c.self.inside.is_numbered c.self.inside.order same c.self.invariant.small.begun_len (summed c) tally)
