use Rattle.std.proofs.Common.{◌≡◌, ◌≤◌, length, vec_capacity}
use Rattle.strat_publish.specs.Promoting.{HasTaken}
use Rattle.strat_publish.proofs.made.take_filters.Given as goal

abbrev pub invariant-loop-i : goal.invariant-loop-i
invariant-loop-i l = record {
  taken : HasTaken l.fn.promotion l.promotion l.first l.kept.items;
  few : length l.kept.items ≡ l.i;
  room : l.count ≤ vec_capacity l.kept;
}
