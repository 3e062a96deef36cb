use Rattle.strat_model.proofs.DropLemmas.{drop_empties, drop_leaves, drop_keeps_tree, drop_frees, root_stays, refused_drop}
use Rattle.strat_model.proofs.laws.drops_empty_one_map.Goals as goal

pub returns : goal.returns
returns c = record { ok = drop_empties; same = drop_leaves; kept = drop_keeps_tree; freed = drop_frees; root = root_stays; err = refused_drop }
