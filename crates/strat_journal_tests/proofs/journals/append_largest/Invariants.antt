use Rattle.std.proofs.Common.{◌≡◌, []}
use Rattle.strat_journal_tests.proofs.journals.append_largest.Given as goal

abbrev pub invariant-loop-i : goal.invariant-loop-i
invariant-loop-i l = l.journal.batch ≡ []
