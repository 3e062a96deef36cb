use Rattle.strat_live.proofs.CountingLaws.{own_live}
use Rattle.strat_live.proofs.laws.own_items_are_live.Goals as goal

pub returns : goal.returns
returns c = λ parents groups v tree down. own_live parents tree groups v down
