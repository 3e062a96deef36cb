use Rattle.std.proofs.Common.{[], ◌∷◌, refl}
use Rattle.strat_store_pins.proofs.AskingLemmas.{map_is, no_map, one_reads}
use Rattle.strat_store_pins.proofs.asking.the_map_of_a_version_is_asked.Goals as goal

pub returns : goal.returns
returns c = record {
  ok = map_is;
  none = no_map;
  found = λ answer tells. (tells.1 refl).1 one_reads ((97 ∷ [], 49 ∷ []) ∷ []) map_is;
}
