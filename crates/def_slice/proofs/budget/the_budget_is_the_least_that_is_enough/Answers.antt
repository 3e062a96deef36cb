use Rattle.def_slice.proofs.BudgetLemmas.{computed, only_budget}
use Rattle.def_slice.proofs.budget.the_budget_is_the_least_that_is_enough.Goals as goal

pub returns : goal.returns
returns c = record { ok = computed; one = only_budget }
