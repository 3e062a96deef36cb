use Rattle.strat_extent.proofs.AmongLemmas.{used_most}
use Rattle.strat_extent.proofs.laws.used_blocks_are_no_more_than_those_of_extents.Goals as goal

pub returns : goal.returns
returns c = used_most
