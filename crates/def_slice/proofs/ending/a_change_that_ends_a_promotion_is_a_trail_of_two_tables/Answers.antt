use Rattle.def_slice.proofs.EndingLemmas.{end_takes, end_trail, end_step, end_stands, end_fill}
use Rattle.def_slice.proofs.ending.a_change_that_ends_a_promotion_is_a_trail_of_two_tables.Goals as goal

pub returns : goal.returns
returns g c = record {
  takes = λ v0 mid lay v1 v2. end_takes _ _ _ _ _;
  trail = λ v0 mid lay v1 v2. end_trail _ _ _ _ _;
  step = λ v0 mid lay v1 v2. end_step _ _ _ _ _;
  stands = λ v0 mid lay v1 v2. end_stands _ _ _ _ _;
  fill = λ v0 mid lay v1 v2. end_fill _ _ _ _ _;
}
