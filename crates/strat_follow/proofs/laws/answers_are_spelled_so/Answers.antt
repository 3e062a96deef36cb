use Rattle.std.proofs.Common.{refl}
use Rattle.strat_base.specs.Numbers as numbers
use Rattle.strat_follow.proofs.laws.answers_are_spelled_so.Goals as goal

pub returns-clause-sent : goal.returns-clause-sent
unfolding numbers.be
returns-clause-sent c = refl

pub returns-clause-later : goal.returns-clause-later
unfolding numbers.be
returns-clause-later c = (refl, refl)

pub returns-clause-ok : goal.returns-clause-ok
unfolding numbers.be
returns-clause-ok c = refl

pub returns-clause-err : goal.returns-clause-err
unfolding numbers.be
returns-clause-err c = (refl, refl)
