use Rattle.strat_live.proofs.CountingLaws.{root_live}
use Rattle.strat_live.proofs.laws.a_root_sees_its_own_keys.Goals as goal

pub returns : goal.returns
returns c = λ parents groups v tree none. root_live parents tree groups v none
