use Rattle.std.proofs.Common.{◌≤◌, length, drop, ◌-◌}
use Rattle.strat_level.specs.Memtable.{entries_held}
use Rattle.strat_cursor.specs.Sources.{PassesUndue}
use Rattle.strat_cursor.proofs.sources.stand_item.Given as goal

abbrev pub invariant-loop-item : goal.invariant-loop-item
invariant-loop-item l = record {
  passes : PassesUndue l.query.view.now.tree.now.parents l.query.version l.last (drop l.fn.item (entries_held l.query.view.now.pool.now l.list)) (drop l.item (entries_held l.query.view.now.pool.now l.list));
  later : l.fn.item ≤ l.item;
}

abbrev pub decreases-loop-item : goal.decreases-loop-item
decreases-loop-item l = length l.list.items - l.item
