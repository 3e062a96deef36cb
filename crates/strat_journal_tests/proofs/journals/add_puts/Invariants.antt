use Rattle.std.proofs.Common.{◌≡◌, length}
use Rattle.strat_journal_tests.proofs.journals.add_puts.Given as goal

abbrev pub invariant-loop-i : goal.invariant-loop-i
invariant-loop-i l =
    (length l.journal.batch ≡ l.i) × (length l.journal.list ≡ length l.initial.journal.list) × (l.journal.mem ≡ l.initial.journal.mem)
