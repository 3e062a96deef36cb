use Rattle.def_slice.proofs.StepLemmas.{takes, whole_trail, still_open}
use Rattle.def_slice.proofs.opened.a_change_over_an_open_promotion_is_a_trail_of_two_tables.Goals as goal

pub returns : goal.returns
returns g c = record {
  takes = λ v0 v1 v2. takes _ _ _;
  trail = λ v0 v1 v2. whole_trail _ _ _;
  stands = λ v0 v1 v2. still_open _ _ _;
}
