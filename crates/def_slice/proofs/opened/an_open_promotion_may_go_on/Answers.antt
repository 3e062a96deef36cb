use Rattle.def_slice.proofs.BegunLemmas.{begun_goes}
use Rattle.def_slice.proofs.OpenedLemmas.{slice_goes, change_goes}
use Rattle.def_slice.proofs.opened.an_open_promotion_may_go_on.Goals as goal

pub returns : goal.returns
returns g c = record {
  begun = begun_goes;
  more = λ old new. slice_goes _ _;
  change = λ x batch sealed levels o m. change_goes x batch m.begun.full sealed levels o m;
}
