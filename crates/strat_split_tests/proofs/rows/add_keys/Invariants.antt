-- So many keys were added.
use Rattle.std.proofs.Common.{◌≡◌, ◌+◌, length}
use Rattle.strat_live.specs.Tallies.{items_counted}
use Rattle.strat_split_tests.proofs.rows.add_keys.Given as goal

abbrev pub invariant-loop : goal.invariant-loop
invariant-loop l = record {
  len : length l.counts.own ≡ length l.fn.counts.own;
  room : items_counted l.counts ≡ items_counted l.fn.counts + l.counter;
}
