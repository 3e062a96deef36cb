use Rattle.std.proofs.Common.{◌≡◌, ◌≤◌, ◌+◌, ◌-◌, length, drop, slice_index_or}
use Rattle.def_texts.specs.Texts.{runs_of}
use Rattle.strat_report.specs.Runs.{run_with}
use Rattle.strat_report.proofs.versions.first_run.Given as goal

abbrev pub invariant-loop-count : goal.invariant-loop-count
invariant-loop-count l =
    (1 ≤ l.count) × (l.count ≤ length l.versions) × (slice_index_or l.versions 0 0 + l.count ≡ l.last + 1)
    × (runs_of l.versions ≡ run_with (slice_index_or l.versions 0 0, l.count) (runs_of (drop l.count l.versions)))

abbrev pub decreases-loop-count : goal.decreases-loop-count
decreases-loop-count l = length l.versions - l.count
