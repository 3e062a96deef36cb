use Rattle.std.proofs.Common.{refl}
use Rattle.strat_base.specs.Numbers as numbers
use Rattle.def_follow.proofs.laws.frames_and_receipts_are_spelled_so.Goals as goal

pub returns-clause-sent : goal.returns-clause-sent
unfolding numbers.be
returns-clause-sent c = refl

pub returns-clause-ok : goal.returns-clause-ok
unfolding numbers.be
returns-clause-ok c = refl

pub returns-clause-same : goal.returns-clause-same
unfolding numbers.be
returns-clause-same c = refl

pub returns-clause-none : goal.returns-clause-none
unfolding numbers.be
returns-clause-none c = refl

pub returns-clause-err : goal.returns-clause-err
unfolding numbers.be
returns-clause-err c = refl

pub returns-clause-end : goal.returns-clause-end
unfolding numbers.be
returns-clause-end c = refl

pub returns-clause-later : goal.returns-clause-later
unfolding numbers.be
returns-clause-later c = (refl, refl)

pub returns-clause-fates : goal.returns-clause-fates
returns-clause-fates c = (refl, refl, refl)

pub returns-clause-causes : goal.returns-clause-causes
returns-clause-causes c = (refl, refl, refl, refl, refl)
