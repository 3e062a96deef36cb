use Rattle.strat_cursor.proofs.RetiredLemmas.{retired_from, retired_there, retired_kept, retired_rest, retired_ids}
use Rattle.strat_cursor.proofs.held_laws.retired_arrays_are_kept_for_cursors.Goals as goal

pub returns : goal.returns
returns g c = record { cause = retired_from; found = retired_there; kept = retired_kept; same = retired_rest; fits = retired_ids }
