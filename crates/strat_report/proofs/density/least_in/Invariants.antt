use Rattle.std.proofs.Common.{◌≡◌, ◌≤◌, length, drop}
use Rattle.std.specs.List.{flat_map}
use Rattle.strat_report.specs.Densities.{least_density}
use Rattle.strat_report.proofs.density.least_in.Given as goal

abbrev pub invariant-loop-left : goal.invariant-loop-left
invariant-loop-left l =
    (least_density (flat_map (λ level. level.arrays) (drop l.left l.levels)) ≡ l.least) × (l.left ≤ length l.levels)

abbrev pub decreases-loop-left : goal.decreases-loop-left
decreases-loop-left l = l.left
