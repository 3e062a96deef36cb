use Rattle.strat_array.proofs.ExtentLemmas.{lawful_within}
use Rattle.strat_array.proofs.laws.lawful_extents_may_be_read.Goals as goal

pub returns : goal.returns
returns c = lawful_within
