use Rattle.def_check.proofs.WeightLemmas.{versions_weigh, versions_count}
use Rattle.def_check.proofs.weights.versions_tell_weights.Goals as goal

pub returns : goal.returns
returns c = record {
  count = λ parents groups v tree grouped. versions_count parents tree groups grouped v;
  weight = λ parents groups v. versions_weigh parents groups v;
}
