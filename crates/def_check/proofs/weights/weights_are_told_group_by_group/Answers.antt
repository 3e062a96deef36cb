use Rattle.def_check.proofs.WeightLemmas.{groups_weigh}
use Rattle.def_check.proofs.weights.weights_are_told_group_by_group.Goals as goal

pub returns : goal.returns
returns c = λ parents weight groups v tree grouped. groups_weigh parents tree weight groups grouped v
