use Rattle.def_publish.proofs.ComputedLemmas.{promotion_follows}
use Rattle.def_publish.proofs.next.promoted_contents_follow.Goals as goal

pub returns : goal.returns
returns c = record { ok = promotion_follows }
