use Rattle.strat_cursor.proofs.HeldLemmas.{held_moved, held_opened, held_arrays, held_retired}
use Rattle.strat_cursor.proofs.RowLemmas.{map_pinned}
use Rattle.strat_cursor.proofs.held_laws.cursors_are_held_as_they_lie.Goals as goal

pub returns : goal.returns
returns c = record { ok = held_moved; found = held_opened; same = held_arrays; kept = held_retired; reads = map_pinned }
