use Rattle.std.proofs.Common.{refl}
use Rattle.def_publish.proofs.WorkedLemmas.{new_stands}
use Rattle.def_publish.proofs.worked.new_contents_stand.Goals as goal

pub returns : goal.returns
returns c = record { stands = new_stands; log = record { mem = refl; active = refl; list = refl } }
