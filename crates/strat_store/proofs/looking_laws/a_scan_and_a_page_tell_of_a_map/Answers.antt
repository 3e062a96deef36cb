use Rattle.std.proofs.Common.{◌∷◌, refl}
use Rattle.std.specs.Option.{option_to_list}
use Rattle.strat_cursor.proofs.MapFound.{map_found}
use Rattle.strat_memory.specs.Memory.{lists_in_memory}
use Rattle.strat_store.proofs.RangingLemmas.{map_asked}
use Rattle.strat_store.proofs.looking_laws.a_scan_and_a_page_tell_of_a_map.Goals as goal

pub returns : goal.returns
returns c = record {
  found = map_asked;
  ok = λ f s v limit lo hi answer tells known reads.
      let m = map_asked f s.memory.parents (lists_in_memory s.memory) s.levels v in
      (m.0, m.1, (tells.1 known).1 reads m.0 m.1);
  end = λ f s x limit answer tells there goes.
      let m = map_found f s.memory.parents (x.zero ∷ option_to_list x.sealed) x.arrays x.version in
      (m.0, m.1, tells.2 x m.0 there refl goes m.1);
}
