use Rattle.std.proofs.Common.{◌≡◌, ◌≤◌, length, vec_capacity}
use Rattle.strat_cursor.proofs.scan_buffers.new_positions.Given as goal

abbrev pub invariant-loop-i : goal.invariant-loop-i
invariant-loop-i l = record {
  len : length l.positions.items ≡ l._i;
  room : 24 ≤ vec_capacity l.positions;
}
