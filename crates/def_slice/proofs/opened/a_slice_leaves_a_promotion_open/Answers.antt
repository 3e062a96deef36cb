use Rattle.def_slice.proofs.OpenedLemmas.{sliced_in_budget, sliced_open}
use Rattle.def_slice.proofs.opened.a_slice_leaves_a_promotion_open.Goals as goal

pub returns : goal.returns
returns g c = record {
  ok = λ old new. sliced_open _ _;
  budget = λ old new. sliced_in_budget _ _;
}
