use Rattle.def_publish.proofs.AppendLemmas.{either_reads, either_trail, appended_trail, appended_stands}
use Rattle.def_publish.proofs.appending.an_appended_batch_is_a_trail_of_two_tables.Goals as goal

pub returns : goal.returns
returns g c = record {
  images = λ old new. either_reads _ _;
  trail = λ old new. either_trail _ _;
  ok = λ old new. appended_trail _ _;
  stands = λ old new. appended_stands _ _;
}
