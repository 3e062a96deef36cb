use Rattle.std.proofs.Common.{◌≡◌, ◌≤◌, ◌++◌, length, take, drop}
use Rattle.strat_merge.specs.Thinning.{told_items}
use Rattle.strat_merge.proofs.thinning.keep_told.Given as goal

abbrev pub invariant-loop-i : goal.invariant-loop-i
invariant-loop-i l = record {
  low : l.kept ≤ l.i;
  len : length l.items ≡ length l.initial.items;
  rest : drop l.i l.items ≡ drop l.i l.initial.items;
  done : take l.kept l.items ++ told_items l.tree.parents l.tree.marks l.arena.pairs (drop l.i l.initial.items) ≡ told_items l.tree.parents l.tree.marks l.arena.pairs l.initial.items;
}
