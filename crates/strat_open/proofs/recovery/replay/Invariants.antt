use Rattle.std.proofs.Common.{map}
use Rattle.strat_journal.specs.Records.{logged_of}
use Rattle.strat_open.proofs.RedoLemmas.{IsRedone}
use Rattle.strat_open.proofs.recovery.replay.Given as goal

abbrev pub invariant-loop-record : goal.invariant-loop-record
invariant-loop-record l = IsRedone l.fn.memory (map logged_of l.logged) l.record-index l.memory
