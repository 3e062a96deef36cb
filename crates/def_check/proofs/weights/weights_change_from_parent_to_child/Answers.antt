use Rattle.def_check.proofs.WeightLemmas.{weights_step, weights_root}
use Rattle.def_check.proofs.weights.weights_change_from_parent_to_child.Goals as goal

pub returns : goal.returns
returns c = record {
  more = λ parents weight groups v p tree grouped some. weights_step parents tree weight groups grouped v p some;
  first = λ parents weight groups v tree grouped none. weights_root parents tree weight groups grouped v none;
}
