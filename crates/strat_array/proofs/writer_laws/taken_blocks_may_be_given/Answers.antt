use Rattle.strat_array.proofs.TakesLemmas.{all_given, none_given, own_given, given_used}
use Rattle.strat_array.proofs.writer_laws.taken_blocks_may_be_given.Goals as goal

pub returns : goal.returns
returns c = record { ok = λ s t front old new back takes. all_given s t old new takes front back; none = none_given; found = own_given; same = given_used }
