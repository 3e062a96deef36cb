use Rattle.def_promote.proofs.SealedLemmas.{before_ordered}
use Rattle.def_promote.proofs.sealing.a_state_was_in_order_before_its_last_changes.Goals as goal

pub returns : goal.returns
returns c = λ s sealed rest is parts. before_ordered s is sealed rest parts
