use Rattle.std.proofs.Common.{arith}
use Rattle.strat_model.proofs.FillLemmas.{few_after, may_fill, one_region}
use Rattle.strat_model.proofs.laws.one_region_leaves_one_fill.Goals as goal

pub returns-clause-ok : goal.returns-clause-ok
returns-clause-ok c = λ mem at after request is few still done. one_region mem at.fill after.fill (is.fill done) few still

pub returns-clause-room : goal.returns-clause-room
returns-clause-room c = λ mem fill some few. (may_fill mem fill some few, few_after mem fill (omega (arith, some)) few)
