use Rattle.strat_cursor.proofs.TableRows.{rows_length, rows_opened, table_none, table_told, rows_less}
use Rattle.strat_cursor.proofs.held_laws.cursors_do_as_a_table_says.Goals as goal

pub returns : goal.returns
returns c = record {
  len = rows_length;
  found = λ f parents cursors rows n. rows_opened f parents n cursors rows;
  none = table_none;
  ok = table_told;
  end = λ f parents cursors rows n. rows_less f parents n cursors rows;
}
