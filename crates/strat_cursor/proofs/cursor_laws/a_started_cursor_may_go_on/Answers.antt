use Rattle.strat_cursor.proofs.HoldingLemmas.{asked_may_go_on}
use Rattle.strat_cursor.proofs.cursor_laws.a_started_cursor_may_go_on.Goals as goal

pub returns : goal.returns
returns g c = record { kept = asked_may_go_on }
