use Rattle.strat_cursor.proofs.RowLemmas.{tree_pinned}
use Rattle.strat_cursor.proofs.cursor_laws.cursors_stand_while_the_tree_grows.Goals as goal

pub returns : goal.returns
returns c = record { kept = λ parents p pool cursors tree within pinned. tree_pinned parents p tree within pool cursors pinned }
