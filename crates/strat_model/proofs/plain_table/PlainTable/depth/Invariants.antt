use Rattle.std.proofs.Common.{◌≡◌, ◌≤◌, ◌+◌, ◌-◌, length}
use Rattle.strat_base.specs.Tree.{climb, path}
use Rattle.strat_model.specs.Table.{parents_of}
use Rattle.strat_model.proofs.plain_table.PlainTable.depth.Given as goal

abbrev pub invariant-loop : goal.invariant-loop
invariant-loop l = record {
  so_far : l.depth + length (climb (l.version - l.counter) (parents_of l.self) l.at) ≡ length (path (parents_of l.self) l.version);
  few : l.depth ≤ l.counter;
}
