use Rattle.def_publish.proofs.LongLemmas.{bytes_few, bytes_some}
use Rattle.def_publish.proofs.next.the_next_manifest_is_short.Goals as goal

pub returns : goal.returns
returns c = record { len = λ f g old new made taken kept m. (bytes_some f g old new made taken kept m, bytes_few f g old new made taken kept m) }
