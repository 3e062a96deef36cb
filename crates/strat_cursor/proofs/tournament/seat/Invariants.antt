use Rattle.std.proofs.Common.{◌≡◌, ◌<◌, ◌-◌, ℕ, length, slice_index}
use Rattle.strat_cursor.proofs.tournament.seat.Given as goal

abbrev pub invariant-loop-k : goal.invariant-loop-k
invariant-loop-k l = record {
  len : length l.winners ≡ length l.initial.winners;
  each : (j : ℕ) → j < l.k → slice_index l.winners j ≡ j - l.contenders;
}
