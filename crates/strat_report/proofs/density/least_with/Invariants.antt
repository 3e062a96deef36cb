use Rattle.std.proofs.Common.{◌≡◌, ◌≤◌, ◌++◌, List, length, drop}
use Rattle.strat_base.specs.declared.descriptors.ArrayDesc.{ArrayDesc}
use Rattle.strat_report.specs.Densities.{least_density}
use Rattle.strat_report.proofs.density.least_with.Given as goal

abbrev pub invariant-loop-left : goal.invariant-loop-left
invariant-loop-left l =
    ((later : List ArrayDesc) → least_density later ≡ l.fn.behind → least_density (drop l.left l.arrays ++ later) ≡ l.least)
    × (l.left ≤ length l.arrays)

abbrev pub decreases-loop-left : goal.decreases-loop-left
decreases-loop-left l = l.left
