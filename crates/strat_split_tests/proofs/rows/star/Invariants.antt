-- There is room for more items.
use Rattle.std.proofs.Common.{◌≡◌, ◌≤◌, ◌*◌, length}
use Rattle.strat_live.specs.Tallies.{items_counted}
use Rattle.strat_split_tests.proofs.rows.star.Given as goal

abbrev pub invariant-loop-v : goal.invariant-loop-v
invariant-loop-v l = record {
  len : length l.counts.own ≡ l.horizon;
  room : items_counted l.counts ≤ 1000 * l.v;
}
