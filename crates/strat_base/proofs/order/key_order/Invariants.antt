use Rattle.std.proofs.Common.{◌≡◌, ◌≤◌, ◌-◌, length, drop}
use Rattle.strat_base.specs.Order.{key_cmp}
use Rattle.strat_base.proofs.order.key_order.Given as goal

abbrev pub invariant-loop-x : goal.invariant-loop-x
invariant-loop-x l = (l.at ≤ length l.a) × (l.at ≤ length l.b) × (key_cmp l.a l.b ≡ key_cmp (drop l.at l.a) (drop l.at l.b))

abbrev pub decreases-loop-x : goal.decreases-loop-x
decreases-loop-x l = length l.a - l.at
