use Rattle.strat_array.proofs.StayLemmas.{pushed_stay, none_pushed, pending_ascends}
use Rattle.strat_array.proofs.writer_laws.entries_stay_pushed.Goals as goal

pub returns : goal.returns
returns c = record { ok = pushed_stay; none = none_pushed; kept = pending_ascends }
