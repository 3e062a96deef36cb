use Rattle.def_publish.proofs.BelongLemmas.{next_belongs}
use Rattle.def_publish.proofs.next.the_next_manifest_belongs.Goals as goal

pub returns : goal.returns
returns c = record { ok = next_belongs }
