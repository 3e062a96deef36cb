use Rattle.strat_bulk.proofs.DenseLemmas.{third_live}
use Rattle.strat_bulk.proofs.laws.an_array_that_is_read_is_a_third_live.Goals as goal

pub returns : goal.returns
returns c = record { ok = λ s level a v sound at known asked. third_live s level a v sound at known asked }
