use Rattle.std.proofs.Common.{refl}
use Rattle.strat_base.specs.Numbers as numbers
use Rattle.def_bulk.proofs.laws.an_export_is_spelled_so.Goals as goal

pub returns-clause-ok : goal.returns-clause-ok
unfolding numbers.be
returns-clause-ok c = refl

pub returns-clause-none : goal.returns-clause-none
returns-clause-none c = refl
