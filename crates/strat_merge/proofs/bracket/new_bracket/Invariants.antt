use Rattle.std.proofs.Common.{◌≡◌, ◌≤◌, ◌<◌, ℕ, ◌-◌, length, slice_index, vec_capacity}
use Rattle.strat_merge.proofs.bracket.new_bracket.Given as goal

abbrev pub invariant-loop-k : goal.invariant-loop-k
invariant-loop-k l = record {
  len : length l.winners.items ≡ l.k;
  room : l.nodes ≤ vec_capacity l.winners;
  each : (j : ℕ) → j < l.k → slice_index l.winners.items j ≡ j - l.contenders;
}
