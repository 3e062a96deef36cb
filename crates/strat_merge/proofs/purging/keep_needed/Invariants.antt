use Rattle.std.proofs.Common.{◌≡◌, ◌≤◌, ◌++◌, length, take, drop}
use Rattle.strat_merge.specs.Keeping.{kept_items}
use Rattle.strat_merge.proofs.purging.keep_needed.Given as goal

abbrev pub invariant-loop-i : goal.invariant-loop-i
invariant-loop-i l = record {
  low : l.kept ≤ l.i;
  len : length l.items ≡ length l.initial.items;
  rest : drop l.i l.items ≡ drop l.i l.initial.items;
  done : take l.kept l.items ++ kept_items l.tree.parents (drop l.i l.initial.items) ≡ kept_items l.tree.parents l.initial.items;
}
