use Rattle.std.proofs.Common.{◌≡◌, ◌≤◌, ◌<◌, ◌-◌, Some, false, length, arith}
use Rattle.std.proofs.lemmas.List.{get_or_read}
use Rattle.strat_base.specs.Tree.{parent_of}
use Rattle.strat_base.specs.Marks.{is_dropped, has_living_child}
use Rattle.strat_base.proofs.TreeLemmas.{parent_older}
use Rattle.strat_base.proofs.PrunedLemmas.{pruned_dropped}
use Rattle.strat_tree.proofs.LivingLemmas.{counted_some, counted_dropped}
use Rattle.strat_tree.proofs.tree.Tree.mark_dead.Goals as goal

pub overflow_sub-index_mut : goal.overflow_sub-index_mut
overflow_sub-index_mut c =
    let kept = c.self.invariant in
    let a = c.self.inside in
    let p = c.parent_made-parent.result in
    let known : (1 ≤ c.args.v) × (c.args.v < length a.parents.items) = rw (← c.self.view_is) at c.requires.fits in
    let lives : is_dropped a.dropped.items c.args.v ≡ false = rw (← c.self.view_is) at c.requires.kept in
    let above : parent_of a.parents.items c.args.v ≡ Some p = rw (← c.self.view_is) at c.parent_made-parent.ensures.ok in
    let there : p < length a.parents.items = let older = parent_older a.parents.items kept.tree c.args.v p above in omega (arith, older, known.1) in
    let read = get_or_read a.living.items p c.index_mut.result.now (omega (arith, there, kept.counted.len)) c.index_mut.ensures.value 0 in
    omega (arith, read, counted_some a.parents.items a.dropped.items c.args.v p known.1 there above kept.pruned.len lives a.living.items kept.counted)

pub invariant_of-self : goal.invariant_of-self
invariant_of-self c =
    let kept = c.self.invariant in
    let a = c.self.inside in
    let p = c.parent_made-parent.result in
    let known : (1 ≤ c.args.v) × (c.args.v < length a.parents.items) = rw (← c.self.view_is) at c.requires.fits in
    let lives : is_dropped a.dropped.items c.args.v ≡ false = rw (← c.self.view_is) at c.requires.kept in
    let none : has_living_child a.parents.items a.dropped.items c.args.v ≡ false = rw (← c.self.view_is) at c.requires.none in
    let above : parent_of a.parents.items c.args.v ≡ Some p = rw (← c.self.view_is) at c.parent_made-parent.ensures.ok in
    let there : p < length a.parents.items = let older = parent_older a.parents.items kept.tree c.args.v p above in omega (arith, older, known.1) in
    let read = get_or_read a.living.items p c.index_mut.result.now (omega (arith, there, kept.counted.len)) c.index_mut.ensures.value 0 in
    let some = counted_some a.parents.items a.dropped.items c.args.v p known.1 there above kept.pruned.len lives a.living.items kept.counted in
    record {
      tree = kept.tree;
      fits = kept.fits;
      few = kept.few;
      index = kept.index;
      pruned = pruned_dropped a.parents.items kept.tree a.dropped.items kept.pruned c.args.v known.0 known.1 none;
      counted = counted_dropped a.parents.items a.dropped.items c.args.v p known.1 there above kept.pruned.len lives a.living.items
          (c.index_mut.result.now - 1) kept.counted (omega (arith, read, some));
      parents_room = kept.parents_room;
      depths_room = kept.depths_room;
      inner_room = kept.inner_room;
      jumps_room = kept.jumps_room;
      dropped_room = kept.dropped_room;
      living_room = kept.living_room;
      numbered_fits = kept.numbered_fits;
      order_room = kept.order_room;
      ordered = kept.ordered;
    }

pub returns-clause-kept : goal.returns-clause-kept
returns-clause-kept c =
    let kept = c.self.invariant in
    let a = c.self.inside in
    let known : (1 ≤ c.args.v) × (c.args.v < length a.parents.items) = rw (← c.self.view_is) at c.requires.fits in
    let none : has_living_child a.parents.items a.dropped.items c.args.v ≡ false = rw (← c.self.view_is) at c.requires.none in
    pruned_dropped a.parents.items kept.tree a.dropped.items kept.pruned c.args.v known.0 known.1 none
