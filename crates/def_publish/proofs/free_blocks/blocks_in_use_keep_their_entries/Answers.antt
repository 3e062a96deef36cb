use Rattle.def_publish.proofs.FreeLemmas.{blocks_kept}
use Rattle.def_publish.proofs.free_blocks.blocks_in_use_keep_their_entries.Goals as goal

pub returns : goal.returns
returns c = blocks_kept
