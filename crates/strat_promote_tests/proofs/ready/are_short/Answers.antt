use Rattle.std.proofs.Common.{sym, ◌∙◌}
use Rattle.strat_promote_tests.proofs.ReadyLemmas.{short_within}
use Rattle.strat_promote_tests.proofs.ready.are_short.Goals as goal

pub returns-clause-fits : goal.returns-clause-fits
returns-clause-fits c = λ few. short_within c.args.extents.now (sym c.are_few.ensures ∙ few)
