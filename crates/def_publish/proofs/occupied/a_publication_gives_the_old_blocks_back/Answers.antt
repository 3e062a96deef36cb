use Rattle.def_publish.proofs.OccupiedLemmas.{next_space, blocks_published}
use Rattle.def_publish.proofs.occupied.a_publication_gives_the_old_blocks_back.Goals as goal

pub returns : goal.returns
returns c = record { same = next_space; ok = blocks_published }
