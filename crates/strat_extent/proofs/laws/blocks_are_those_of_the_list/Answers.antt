use Rattle.strat_extent.proofs.BlockLemmas.{times_listed, total_listed}
use Rattle.strat_extent.proofs.laws.blocks_are_those_of_the_list.Goals as goal

pub returns-clause-ok : goal.returns-clause-ok
returns-clause-ok c = times_listed

pub returns-clause-len : goal.returns-clause-len
returns-clause-len c = total_listed
