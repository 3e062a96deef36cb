use Rattle.def_publish.proofs.BatchLemmas.{ends_grown, batch_either, batch_sound, batch_trail}
use Rattle.def_publish.specs.Contents.{contents_state}
use Rattle.def_publish.proofs.appending.an_appended_batch_is_a_trail_of_its_tables.Goals as goal

pub returns : goal.returns
returns g c = record {
  sound = batch_sound;
  last = λ x first others takes. ends_grown first others (contents_state x) takes;
  trail = λ old new. batch_either _ _;
  ok = λ old new. batch_trail _ _;
}
