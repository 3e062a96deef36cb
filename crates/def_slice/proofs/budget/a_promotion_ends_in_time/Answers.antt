use Rattle.def_slice.proofs.BudgetLemmas.{in_time, last_takes_all}
use Rattle.def_slice.proofs.budget.a_promotion_ends_in_time.Goals as goal

pub returns : goal.returns
returns c = record {
  room = λ mem fill sum b counts is few high all. in_time mem fill sum b counts high is few all;
  last = last_takes_all;
}
