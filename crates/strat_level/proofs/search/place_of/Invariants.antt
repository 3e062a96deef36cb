use Rattle.std.proofs.Common.{◌≡◌, ◌<◌, ◌≤◌, ◌-◌, ℕ, get_or, length}
use Rattle.std.specs.declared.cmp.Ordering.TheVariants.{Less, Greater}
use Rattle.strat_base.specs.Entries.{Entry}
use Rattle.strat_arena.specs.PoolView.{arena_at}
use Rattle.strat_arena.specs.Items.{entries_of}
use Rattle.strat_level.specs.Places.{compared}
use Rattle.strat_level.proofs.search.place_of.Given as goal

abbrev pub invariant-loop-low : goal.invariant-loop-low
invariant-loop-low l = record {
  order : l.low ≤ l.high;
  within : l.high ≤ length l.items;
  before : (k : ℕ) (d : Entry) → k < l.low → compared (get_or (entries_of (arena_at l.pool l.arena).pairs l.items) k d) l.key l.version ≡ Less;
  after : (k : ℕ) (d : Entry) → l.high ≤ k → k < length l.items → compared (get_or (entries_of (arena_at l.pool l.arena).pairs l.items) k d) l.key l.version ≡ Greater;
}

abbrev pub decreases-loop-low : goal.decreases-loop-low
decreases-loop-low l = l.high - l.low
