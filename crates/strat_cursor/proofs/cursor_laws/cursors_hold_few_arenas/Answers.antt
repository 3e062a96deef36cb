use Rattle.strat_cursor.proofs.HoldingLemmas.{shares_few, pool_few}
use Rattle.strat_cursor.proofs.cursor_laws.cursors_hold_few_arenas.Goals as goal

pub returns : goal.returns
returns c = record { fits = shares_few; len = pool_few }
