use Rattle.def_publish.proofs.FreeLemmas.{free_reads, free_trail, free_stands}
use Rattle.def_publish.proofs.free_blocks.writes_of_free_blocks_keep_contents.Goals as goal

pub returns : goal.returns
returns g c = record {
  images = λ old new x free are torn. free_reads free x are _ _ torn;
  trail = λ old new x free are torn stands. free_trail free x are _ _ torn stands;
  stands = λ old new x free are torn stands. free_stands free x are _ _ torn stands;
}
