use Rattle.std.proofs.Common.{◌≡◌, ◌≤◌, ◌*◌, take}
use Rattle.std.specs.List.{flat_map, sum_by}
use Rattle.strat_report.proofs.totals.entries_in.Given as goal

abbrev pub invariant-loop-level : goal.invariant-loop-level
invariant-loop-level l =
    (l.entries ≡ sum_by (λ a. a.entries) (flat_map (λ level. level.arrays) (take l.level-index l.levels)))
    × (l.entries ≤ 79228162495817593515539431425 * l.level-index)
