use Rattle.std.specs.Option.{option_to_list}
use Rattle.std.proofs.Common.{◌∷◌}
use Rattle.strat_cursor.proofs.MapFound.{map_found}
use Rattle.strat_cursor.proofs.held_laws.look_ups_find_a_map.Goals as goal

pub returns : goal.returns
returns c = record {
  ok = map_found;
  found = λ f parents x. map_found f parents (x.zero ∷ option_to_list x.sealed) x.arrays x.version;
}
