use Rattle.std.proofs.Common.{rules}
use Rattle.std.proofs.lemmas.Fn.{filter_same}
use Rattle.strat_cursor.proofs.cursors.keep_named.Goals as goal

pub returns-clause-ok : goal.returns-clause-ok
returns-clause-ok c = filter_same _ _ _ (λ x b f' k. search rules) _ _ c.retain.ensures.filtered
