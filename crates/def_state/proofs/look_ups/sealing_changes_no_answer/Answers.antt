use Rattle.std.proofs.lemmas.Bool.{not-true}
use Rattle.strat_base.specs.Marks.{is_dropped}
use Rattle.def_state.specs.State.{marks_of}
use Rattle.def_state.proofs.SealLemmas.{sealed_read}
use Rattle.def_state.proofs.look_ups.sealing_changes_no_answer.Goals as goal

pub returns : goal.returns
returns c = λ s older newer v key sound split living. sealed_read s sound older newer split v (not-true (is_dropped (marks_of s) v) living) key
