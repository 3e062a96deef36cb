use Rattle.strat_split.proofs.KeyedLemmas.{group_taken}
use Rattle.strat_split.proofs.laws.a_part_takes_of_a_group_what_it_takes_of_its_entries.Goals as goal

pub returns : goal.returns
returns c = λ parents plan items q key entry keyed at. group_taken parents items key entry keyed at plan q
