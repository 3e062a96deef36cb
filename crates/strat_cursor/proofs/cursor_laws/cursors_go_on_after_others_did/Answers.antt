use Rattle.strat_cursor.proofs.HoldingLemmas.{goes_on_moved, goes_on_without, names_moved, names_without}
use Rattle.strat_cursor.proofs.cursor_laws.cursors_go_on_after_others_did.Goals as goal

pub returns : goal.returns
returns g c = record { kept = goes_on_moved; end = goes_on_without; same = names_moved; found = names_without }
