use Rattle.std.proofs.Common.{◌≡◌, true, take}
use Rattle.strat_promote.specs.LeadRuns.{entries_at_hand}
use Rattle.strat_check.specs.Scanned.{have_low_versions}
use Rattle.strat_check.proofs.scan.are_within.Given as goal

abbrev pub invariant-loop-i : goal.invariant-loop-i
invariant-loop-i l = have_low_versions l.versions (take l.i (entries_at_hand l.scratch)) ≡ true
