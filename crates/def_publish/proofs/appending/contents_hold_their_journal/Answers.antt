use Rattle.std.proofs.Common.{refl}
use Rattle.def_meaning.proofs.StateTableLemmas.{stays_sound}
use Rattle.def_publish.specs.Contents.{contents_state}
use Rattle.def_publish.proofs.AppendLemmas.{stands_journal}
use Rattle.def_publish.proofs.appending.contents_hold_their_journal.Goals as goal

pub returns : goal.returns
returns g c = record { stands = λ d. stands_journal _; state = λ x change. refl; sound = λ x change. stays_sound (contents_state x) change }
