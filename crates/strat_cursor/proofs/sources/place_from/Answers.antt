use Rattle.std.proofs.Common.{sym, ◌∙◌}
use Rattle.strat_cursor.proofs.FirstLemmas.{left_first}
use Rattle.strat_cursor.proofs.sources.place_from.Goals as goal

pub returns-then-is_empty-clause-ok : goal.returns-then-is_empty-clause-ok
returns-then-is_empty-clause-ok g c = λ lists stands up. left_first lists c.args.lo.now (sym c.is_empty.ensures ∙ c.if-is_empty.true)
