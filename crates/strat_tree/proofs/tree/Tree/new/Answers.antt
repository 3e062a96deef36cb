use Rattle.std.proofs.Common.{rules, arith}
use Rattle.strat_tree.proofs.GrownLemmas.{tree_root, index_root}
use Rattle.strat_base.proofs.PrunedLemmas.{pruned_root}
use Rattle.strat_tree.proofs.LivingLemmas.{counted_root}
use Rattle.strat_tree.proofs.tree.Tree.new.Goals as goal

pub invariant_of-result : goal.invariant_of-result
invariant_of-result c =
    record {
      tree = rw (c.push_reserved.ensures.items, c.in_ok-parents.ensures.items) tree_root;
      fits = rw (c.push_reserved.ensures.items, c.in_ok-parents.ensures.items) c.requires.0;
      few = c.requires.1;
      index = rw (
        c.push_reserved.ensures.items,
        c.push_reserved-2.ensures.items,
        c.push_reserved-3.ensures.items,
        c.push_reserved-4.ensures.items,
        c.in_ok-parents.ensures.items,
        c.in_ok-depths.ensures.items,
        c.in_ok-inner.ensures.items,
        c.in_ok-jumps.ensures.items,
      ) index_root;
      pruned = rw (c.push_reserved.ensures.items, c.push_reserved-5.ensures.items, c.in_ok-parents.ensures.items, c.in_ok-dropped.ensures.items) pruned_root;
      counted = rw (
        c.push_reserved.ensures.items,
        c.push_reserved-5.ensures.items,
        c.push_reserved-6.ensures.items,
        c.in_ok-parents.ensures.items,
        c.in_ok-dropped.ensures.items,
        c.in_ok-living.ensures.items,
      ) counted_root;
      parents_room = search rules;
      depths_room = search rules;
      inner_room = search rules;
      jumps_room = search rules;
      dropped_room = search rules;
      living_room = search rules;
      numbered_fits = search rules;
      order_room = search rules;
      ordered = λ u v few within. absurd (omega arith);
    }
