use Rattle.strat_cursor.proofs.RetiredLemmas.{closed_from, closed_keeps_named, closed_ids}
use Rattle.strat_cursor.proofs.held_laws.a_close_keeps_what_others_name.Goals as goal

pub returns : goal.returns
returns g c = record { cause = closed_from; kept = closed_keeps_named; fits = closed_ids }
