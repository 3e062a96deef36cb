use Rattle.std.proofs.Common.{◌≡◌, ◌<◌, ◌≤◌, ◌-◌, ℕ, true, false, get_or, length}
use Rattle.strat_base.specs.Entries.{Entry}
use Rattle.strat_block.specs.Places.{stands_below}
use Rattle.strat_block.proofs.view.BlockView.first_at_or_after.Given as goal

abbrev pub invariant-loop-low : goal.invariant-loop-low
invariant-loop-low l = record {
  order : l.low ≤ l.high;
  within : l.high ≤ length l.self;
  before : (k : ℕ) (d : Entry) → k < l.low → stands_below l.key (get_or l.self k d) ≡ true;
  after : (k : ℕ) (d : Entry) → l.high ≤ k → k < length l.self → stands_below l.key (get_or l.self k d) ≡ false;
}

abbrev pub decreases-loop-low : goal.decreases-loop-low
decreases-loop-low l = l.high - l.low
