use Rattle.def_slice.proofs.EndingLemmas.{end_alone}
use Rattle.def_slice.proofs.LastLemmas.{promotes_whole}
use Rattle.def_slice.proofs.ending.a_first_slice_that_is_the_last_promotes_the_whole_journal.Goals as goal

pub returns : goal.returns
returns g c = record {
  says = promotes_whole;
  fill = λ v0 mid lay v1 v2 x y sealed levels others o log turned change few s ends. end_alone _ _ _ _ _ x y sealed levels others o log turned change s ends few;
}
