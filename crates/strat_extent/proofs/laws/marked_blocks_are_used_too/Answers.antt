use Rattle.strat_extent.proofs.BlockLemmas.{marked_or, marked_none}
use Rattle.strat_extent.proofs.laws.marked_blocks_are_used_too.Goals as goal

pub returns-clause-ok : goal.returns-clause-ok
returns-clause-ok c = marked_or

pub returns-clause-none : goal.returns-clause-none
returns-clause-none c = marked_none
