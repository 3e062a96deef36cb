-- The chain goes on at a part that hangs there, and to greater numbers.
use Rattle.std.proofs.Common.{◌≡◌, ◌<◌, ◌-◌, length, slice_index}
use Rattle.std.specs.Option.{IfSome, option_map_or}
use Rattle.strat_split_tests.proofs.drawn.hung.Given as goal

abbrev pub invariant-loop-at : goal.invariant-loop-at
invariant-loop-at l = IfSome l.at (λ q. (q < length l.hanging) × (slice_index l.hanging q ≡ l.part))

abbrev pub decreases-loop-at : goal.decreases-loop-at
decreases-loop-at l = option_map_or (λ q. length l.hanging - q) l.at 0
