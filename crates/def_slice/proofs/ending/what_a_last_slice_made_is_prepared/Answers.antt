use Rattle.def_slice.proofs.MadeLemmas.{last_made, made_stays, last_prepared}
use Rattle.strat_promote.specs.Promotions.{writers_of}
use Rattle.def_slice.proofs.ending.what_a_last_slice_made_is_prepared.Goals as goal

pub returns : goal.returns
returns g c = record {
  made = last_made;
  stays = λ f h x target made s q m owns all keeps. made_stays f h x target made s (writers_of q) m owns all keeps;
  prepared = λ v w. last_prepared _ _;
}
