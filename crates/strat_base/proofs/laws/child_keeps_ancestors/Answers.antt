use Rattle.std.proofs.Common.{ℕ, List, ap, eqb}
use Rattle.std.specs.List.{list_any}
use Rattle.strat_base.proofs.TreeLemmas.{tree_grown, path_kept, path_child}
use Rattle.strat_base.proofs.laws.child_keeps_ancestors.Goals as goal

pub returns : goal.returns
returns c = record {
  tree = λ parents p tree known. tree_grown parents tree p known;
  same = λ parents p u v tree known older. ap (λ (x : List ℕ). list_any (λ w. eqb w u) x) (path_kept parents tree p known v older);
  child = λ parents p tree known. path_child parents tree p known;
}
