-- The choice is that from here on.
use Rattle.std.proofs.Common.{◌≡◌, ◌≤◌, ◌-◌}
use Rattle.def_texts.specs.Workload.{leaf_from}
use Rattle.strat_serve.proofs.drawing.leaf_from.Given as goal

abbrev pub invariant-loop-leaf : goal.invariant-loop-leaf
invariant-loop-leaf l = record {
  within : l.leaf ≤ l.last;
  same : leaf_from l.parents l.leaf ≡ leaf_from l.parents l.v;
}

abbrev pub decreases-loop-leaf : goal.decreases-loop-leaf
decreases-loop-leaf l = l.last - l.leaf
