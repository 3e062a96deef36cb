use Rattle.std.proofs.Common.{◌≡◌, ℕ, ◌<◌, None, length}
use Rattle.strat_level.specs.Levels.{level_numbered}
use Rattle.strat_promote.proofs.edges.is_deepest.Given as goal

abbrev pub invariant-loop-number : goal.invariant-loop-number
invariant-loop-number l = record {
  len : 1 < l.number → length l.levels ≡ 22;
  none : (n : ℕ) → l.target < n → n < l.number → level_numbered l.levels n ≡ None;
}
