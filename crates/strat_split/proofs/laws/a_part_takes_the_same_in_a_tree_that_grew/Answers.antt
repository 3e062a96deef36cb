use Rattle.strat_split.proofs.GrownLemmas.{taken_same}
use Rattle.strat_split.proofs.laws.a_part_takes_the_same_in_a_tree_that_grew.Goals as goal

pub returns : goal.returns
returns c = taken_same
