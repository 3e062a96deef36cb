use Rattle.def_publish.proofs.FreeLemmas.{one_table}
use Rattle.def_publish.proofs.PartsLemmas.{one_contents}
use Rattle.def_publish.proofs.reading.contents_are_unique.Goals as goal

pub returns : goal.returns
returns c = record { contents = one_contents; table = one_table }
