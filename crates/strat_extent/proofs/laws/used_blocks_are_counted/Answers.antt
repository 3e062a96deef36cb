use Rattle.strat_extent.proofs.BlockLemmas.{used_summed}
use Rattle.strat_extent.proofs.laws.used_blocks_are_counted.Goals as goal

pub returns : goal.returns
returns c = used_summed
