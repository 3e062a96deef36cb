use Rattle.std.proofs.Common.{◌≡◌, ◌++◌, length, string_bytes}
use Rattle.def_texts.specs.Texts.{versions_text}
use Rattle.strat_report.specs.Runs.{later_runs}
use Rattle.strat_report.proofs.versions.add_versions.Given as goal

abbrev pub invariant-loop-left : goal.invariant-loop-left
invariant-loop-left l = string_bytes l.out ++ later_runs l.left ≡ string_bytes l.fn.out ++ versions_text l.versions

abbrev pub decreases-loop-left : goal.decreases-loop-left
decreases-loop-left l = length l.left
