use Rattle.std.proofs.Common.{length, ◌-◌, ◌≡◌, ◌≤◌, drop}
use Rattle.strat_base.specs.Order.{key_cmp}
use Rattle.strat_base.proofs.order.rest_order.Given as goal

abbrev pub invariant-loop-i : goal.invariant-loop-i
invariant-loop-i l = (l.i ≤ length l.a) × (l.i ≤ length l.b) × (key_cmp (drop l.at l.a) (drop l.at l.b) ≡ key_cmp (drop l.i l.a) (drop l.i l.b))

abbrev pub decreases-loop-i : goal.decreases-loop-i
decreases-loop-i l = length l.a - l.i
