use Rattle.strat_model.proofs.TableLemmas.{fresh_is_table, step_keeps_table}
use Rattle.strat_model.proofs.laws.tables_keep_maps_and_tree.Goals as goal

pub returns : goal.returns
returns c = record { ok = fresh_is_table; kept = step_keeps_table }
