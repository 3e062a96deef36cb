use Rattle.strat_array.proofs.LawLemmas.{array_stands}
use Rattle.strat_array.proofs.laws.arrays_stand_where_their_blocks_do.Goals as goal

pub returns : goal.returns
returns c = array_stands
