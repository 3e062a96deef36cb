use Rattle.std.proofs.Common.{◌≡◌, ◌≤◌, length}
use Rattle.strat_cursor.specs.Pins.{arrays_before}
use Rattle.strat_cursor.proofs.starting.arrays_at.Given as goal

abbrev pub invariant-loop-above : goal.invariant-loop-above
invariant-loop-above l =
    (l.arrays ≡ arrays_before l.tree.parents l.levels l.above l.version) × (length l.arrays ≤ l.above) × (length l.levels ≡ 22)
