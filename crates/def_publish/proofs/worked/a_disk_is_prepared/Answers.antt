use Rattle.std.proofs.Common.{refl, arith}
use Rattle.def_publish.proofs.WorkedLemmas.{next_succeeds, next_prepared, again_succeeds}
use Rattle.def_publish.proofs.worked.a_disk_is_prepared.Goals as goal

pub returns : goal.returns
returns c = record {
  prepared = next_prepared;
  promoted = record { mem = refl; changes_max = refl; versions_max = refl; format = refl; parents = refl; marks = refl; compacted = refl; updates = refl; changes = refl; journal = refl };
  generation = next_succeeds 3 (omega arith) (omega arith);
  again = again_succeeds;
}
