use Rattle.def_publish.proofs.NextLemmas.{next_spelled}
use Rattle.def_publish.proofs.next.the_next_manifest_has_a_spelling.Goals as goal

pub returns : goal.returns
returns c = record { ok = λ f g old new made taken kept m. next_spelled f g old new made taken kept m.follows m.few }
