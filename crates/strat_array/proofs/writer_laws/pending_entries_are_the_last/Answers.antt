use Rattle.strat_array.proofs.StayLemmas.{pushed_end, none_end, more_end, end_ascends}
use Rattle.strat_array.proofs.writer_laws.pending_entries_are_the_last.Goals as goal

pub returns : goal.returns
returns c = record { ok = more_end; none = none_end; found = pushed_end; kept = end_ascends }
