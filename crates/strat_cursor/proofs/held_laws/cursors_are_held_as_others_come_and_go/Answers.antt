use Rattle.strat_cursor.proofs.HeldLemmas.{held_started, held_gone}
use Rattle.strat_cursor.proofs.held_laws.cursors_are_held_as_others_come_and_go.Goals as goal

pub returns : goal.returns
returns c = record { ok = held_started; end = held_gone }
