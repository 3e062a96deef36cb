use Rattle.strat_filter.proofs.BitLemmas.{no_other_bits, none_refuses}
use Rattle.strat_filter.proofs.laws.a_filter_of_entries_has_no_other_bits.Goals as goal

pub returns-clause-found : goal.returns-clause-found
returns-clause-found c = no_other_bits

pub returns-clause-none : goal.returns-clause-none
returns-clause-none c = none_refuses
