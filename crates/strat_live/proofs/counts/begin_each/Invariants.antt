-- Which versions of the group were taken.
use Rattle.std.proofs.Common.{◌≤◌, ◌+◌, length, sum, drop, vec_len, vec_capacity}
use Rattle.strat_base.specs.Tree.{Parents, IsTree}
use Rattle.strat_tree.specs.Preorder.{IsPreorder}
use Rattle.strat_live.specs.Counting.{item_versions}
use Rattle.strat_live.proofs.BegunLemmas.{HaveBegun}
use Rattle.strat_live.proofs.counts.begin_each.Given as goal

abbrev pub invariant-loop-i : goal.invariant-loop-i
invariant-loop-i l = record {
  bound : l.i ≤ length l.group;
  added : sum l.begun + l.i ≤ sum l.fn.begun + length l.group;
  held : vec_len l.tops + l.i ≤ length l.group;
  room : vec_capacity l.fn.tops ≤ vec_capacity l.tops;
  right : (parents : Parents) → IsTree parents → IsPreorder (length l.fn.begun) parents l.order → HaveBegun (length l.fn.begun) parents l.order (item_versions l.group) (drop l.i (item_versions l.group)) l.fn.begun l.begun l.tops.items;
}

abbrev pub decreases-loop-i : goal.decreases-loop-i
decreases-loop-i l = l.i
