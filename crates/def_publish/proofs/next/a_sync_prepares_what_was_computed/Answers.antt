use Rattle.def_publish.proofs.ComputedLemmas.{computed_prepared}
use Rattle.def_publish.proofs.next.a_sync_prepares_what_was_computed.Goals as goal

pub returns : goal.returns
returns g c = record { ok = λ v w. computed_prepared _ _ }
