use Rattle.strat_cursor.proofs.HoldingLemmas.{goes_on_beside}
use Rattle.strat_cursor.proofs.cursor_laws.cursors_go_on_beside_look_ups.Goals as goal

pub returns : goal.returns
returns g c = record { kept = goes_on_beside }
