-- Which versions have passed their sizes up.
use Rattle.std.proofs.Common.{◌≡◌, ◌<◌, ◌-◌, length}
use Rattle.strat_tree.proofs.PassLemmas.{at_each, IsSized}
use Rattle.strat_tree.proofs.preorder.add_sizes.Given as goal

abbrev pub invariant-loop-v : goal.invariant-loop-v
invariant-loop-v l = record {
  len : length l.sizes ≡ length l.fn.sizes;
  some : 0 < length l.fn.sizes → 0 < l.v;
  sized : IsSized l.parents (length l.fn.sizes) l.v (at_each l.sizes);
}

abbrev pub decreases-loop-v : goal.decreases-loop-v
decreases-loop-v l = l.v - 1
