use Rattle.std.proofs.Common.{arith, ◌<◌, ◌≡◌, ◌+◌, false, length, Some, subst, sym}
use Rattle.std.proofs.lemmas.List.{length_push, get_or_read}
use Rattle.strat_base.specs.Tree.{depth}
use Rattle.strat_base.specs.Marks.{is_dropped}
use Rattle.strat_base.proofs.TreeLemmas.{tree_grown}
use Rattle.strat_tree.specs.TreeView.{TreeView}
use Rattle.strat_tree.specs.Jumps.{IsChildRow}
use Rattle.strat_tree.proofs.GrownLemmas.{index_grown, depth_fits}
use Rattle.strat_tree.proofs.OrderLemmas.{order_grown}
use Rattle.strat_base.proofs.PrunedLemmas.{pruned_grown}
use Rattle.strat_tree.proofs.LivingLemmas.{living_few, counted_grown}
use Rattle.strat_tree.proofs.tree.Tree.add_child.Goals as goal

pub overflow_add-depth : goal.overflow_add-depth
overflow_add-depth c =
    let kept = c.self.invariant in
    let a = c.self.inside in
    let known : c.args.p < length a.parents.items = rw (← c.self.view_is) at c.requires.fits in
    let read = get_or_read a.depths.items c.args.p c.index.result.now (omega (arith, kept.index.depths_len)) c.index.ensures 0 in
    omega (arith, read, kept.index.deep c.args.p known, depth_fits a.parents.items kept.tree (omega (arith, kept.fits, kept.few)) c.args.p known)

pub overflow_add-siblings : goal.overflow_add-siblings
overflow_add-siblings c =
    let kept = c.self.invariant in
    let a = c.self.inside in
    let known : c.args.p < length a.parents.items = rw (← c.self.view_is) at c.requires.fits in
    let read = get_or_read a.living.items c.args.p c.index-siblings.result.now (omega (arith, kept.counted.len)) c.index-siblings.ensures 0 in
    omega (arith, read, kept.counted.each c.args.p known, living_few a.parents.items a.dropped.items c.args.p, kept.fits, kept.few)

pub invariant_of-self : goal.invariant_of-self
invariant_of-self c =
    let kept = c.self.invariant in
    let a = c.self.inside in
    let known : c.args.p < length a.parents.items = rw (← c.self.view_is) at c.requires.fits in
    let lives : is_dropped a.dropped.items c.args.p ≡ false = rw (← c.self.view_is) at c.requires.kept in
    let counted = get_or_read a.living.items c.args.p c.index-siblings.result.now (omega (arith, kept.counted.len)) c.index-siblings.ensures 0 in
    let room : length a.parents.items < a.versions_max = rw (← c.self.view_is) at c.requires.room in
    let read = get_or_read a.depths.items c.args.p c.index.result.now (omega (arith, kept.index.depths_len)) c.index.ensures 0 in
    let deeper : c.index.result.now + 1 ≡ depth a.parents.items c.args.p + 1 = omega (arith, read, kept.index.deep c.args.p known) in
    let filled : IsChildRow a.parents.items c.args.p c.child_row-row.result = subst (λ (t : TreeView). IsChildRow t.parents c.args.p c.child_row-row.result) (sym c.self.view_is) c.child_row-row.ensures.ok in
    let index = index_grown a.parents.items kept.tree c.args.p known a.depths.items a.inner.items a.jumps.items (c.index.result.now + 1) c.child_row-row.result kept.index deeper filled in
    record {
      tree = rw c.push_reserved.ensures.items (tree_grown a.parents.items kept.tree c.args.p known);
      fits = rw c.push_reserved.ensures.items (omega (arith, length_push a.parents.items (Some c.args.p)));
      few = kept.few;
      index = rw (c.push_reserved.ensures.items, c.push_reserved-2.ensures.items, c.push_reserved-3.ensures.items, c.push_reserved-4.ensures.items) index;
      pruned = rw (c.push_reserved.ensures.items, c.push_reserved-5.ensures.items) (pruned_grown a.parents.items kept.tree a.dropped.items kept.pruned c.args.p known lives);
      counted = rw (c.push_reserved.ensures.items, c.push_reserved-5.ensures.items, c.push_reserved-6.ensures.items) (
          counted_grown a.parents.items kept.tree a.dropped.items c.args.p known kept.pruned.len a.living.items (c.index-siblings.result.now + 1) kept.counted (omega (arith, counted))
          );
      parents_room = omega (arith, kept.parents_room, c.push_reserved.ensures.capacity);
      depths_room = omega (arith, kept.depths_room, c.push_reserved-2.ensures.capacity);
      inner_room = omega (arith, kept.inner_room, c.push_reserved-3.ensures.capacity);
      jumps_room = omega (arith, kept.jumps_room, c.push_reserved-4.ensures.capacity);
      dropped_room = omega (arith, kept.dropped_room, c.push_reserved-5.ensures.capacity);
      living_room = omega (arith, kept.living_room, c.push_reserved-6.ensures.capacity);
      numbered_fits = rw c.push_reserved.ensures.items (omega (arith, kept.numbered_fits, length_push a.parents.items (Some c.args.p)));
      order_room = kept.order_room;
      ordered = rw c.push_reserved.ensures.items (order_grown a.parents.items kept.tree c.args.p known a.numbered a.order kept.numbered_fits kept.ordered);
    }

pub returns-clause-kept : goal.returns-clause-kept
returns-clause-kept c =
    let known : c.args.p < length c.self.inside.parents.items = rw (← c.self.view_is) at c.requires.fits in
    rw c.push_reserved.ensures.items (tree_grown c.self.inside.parents.items c.self.invariant.tree c.args.p known)
