use Rattle.std.proofs.Common.{◌≡◌, ◌≤◌, ◌*◌, length, take}
use Rattle.std.specs.List.{flat_map}
use Rattle.strat_report.proofs.totals.arrays_in.Given as goal

abbrev pub invariant-loop-level : goal.invariant-loop-level
invariant-loop-level l =
    (l.arrays ≡ length (flat_map (λ level. level.arrays) (take l.level-index l.levels)))
    × (l.arrays ≤ 18446744073709551615 * l.level-index)
