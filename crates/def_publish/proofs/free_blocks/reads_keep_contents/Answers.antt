use Rattle.def_publish.proofs.FreeLemmas.{read_trail, read_stands}
use Rattle.def_publish.proofs.free_blocks.reads_keep_contents.Goals as goal

pub returns : goal.returns
returns g c = record { trail = λ old new x. read_trail x _ _; stands = λ old new x. read_stands x _ _ }
