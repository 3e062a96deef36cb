use Rattle.strat_cursor.proofs.RetiredLemmas.{named_id}
use Rattle.strat_cursor.proofs.held_laws.named_arrays_are_named_by_number.Goals as goal

pub returns : goal.returns
returns g c = record { found = named_id }
