use Rattle.strat_cursor.proofs.TableRows.{table_started}
use Rattle.strat_cursor.proofs.held_laws.a_started_cursor_has_its_range_left.Goals as goal

pub returns : goal.returns
returns c = record { ok = table_started }
