use Rattle.std.proofs.Common.{◌≡◌, ℕ, ◌<◌, length, get_or}
use Rattle.strat_disk.specs.Medium.{crashed, shown}
use Rattle.strat_disk.proofs.plane.Plane.crash.Given as goal

abbrev pub invariant-loop-i : goal.invariant-loop-i
invariant-loop-i l = record {
  len : length l.left.items ≡ l.i;
  each : (k : ℕ) → k < l.i → get_or l.left.items k 0 ≡ crashed l.choice (shown l.self.bytes.items l.self.durable.items l.self.pending.items) k;
}
