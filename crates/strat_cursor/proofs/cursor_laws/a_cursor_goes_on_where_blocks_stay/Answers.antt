use Rattle.strat_cursor.proofs.HoldingLemmas.{goes_on_in, goes_on_later}
use Rattle.strat_cursor.proofs.cursor_laws.a_cursor_goes_on_where_blocks_stay.Goals as goal

pub returns : goal.returns
returns g c = record { same = goes_on_in; fits = goes_on_later }
