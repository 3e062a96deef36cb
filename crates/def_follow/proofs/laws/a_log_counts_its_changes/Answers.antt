use Rattle.def_follow.proofs.LogLemmas.{after_counts}
use Rattle.def_follow.proofs.laws.a_log_counts_its_changes.Goals as goal

pub returns : goal.returns
returns c = record { ok = after_counts }
