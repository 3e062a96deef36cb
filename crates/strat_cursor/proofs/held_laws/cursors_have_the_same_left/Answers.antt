use Rattle.strat_cursor.proofs.RowLemmas.{image_rows, tree_rows}
use Rattle.strat_cursor.proofs.held_laws.cursors_have_the_same_left.Goals as goal

pub returns : goal.returns
returns c = record { same = image_rows; kept = λ parents p f cursors rows tree within known. tree_rows parents p tree within f cursors rows known }
