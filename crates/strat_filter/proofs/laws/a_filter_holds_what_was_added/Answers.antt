use Rattle.strat_filter.proofs.BitLemmas.{none_is_lost, contained}
use Rattle.strat_filter.proofs.laws.a_filter_holds_what_was_added.Goals as goal

pub returns : goal.returns
returns c = λ n keys key some among. none_is_lost n keys key some (contained keys key among)
