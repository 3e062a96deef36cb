use Rattle.def_slice.proofs.BudgetLemmas.{begun, goes_on}
use Rattle.def_slice.proofs.budget.a_slice_leaves_a_promotion_on_time.Goals as goal

pub returns : goal.returns
returns c = record { begun = begun; more = goes_on }
