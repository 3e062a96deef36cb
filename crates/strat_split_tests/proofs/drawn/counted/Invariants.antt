-- There is room for more items.
use Rattle.std.proofs.Common.{◌≡◌, ◌≤◌, ◌*◌, length}
use Rattle.strat_live.specs.Tallies.{items_counted}
use Rattle.strat_split_tests.proofs.drawn.counted.Given as goal

abbrev pub invariant-loop-key : goal.invariant-loop-key
invariant-loop-key l = record {
  len : length l.counts.own ≡ l.versions;
  room : items_counted l.counts ≤ 64 * l.key;
}
