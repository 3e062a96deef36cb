use Rattle.def_state.proofs.LookUpLemmas.{none_live, filters_agree}
use Rattle.def_state.proofs.look_ups.filters_change_no_answer.Goals as goal

pub returns : goal.returns
returns c = record {
  key = λ parents entries v key none. none_live parents v key entries none;
  same = λ may_hold parents zeros levels v key right. filters_agree parents v key may_hold right zeros levels;
}
