use Rattle.std.proofs.Common.{◌∙◌}
use Rattle.def_state.specs.Maps.{map_over}
use Rattle.def_state.proofs.MapLemmas.{value_in-lookup}
use Rattle.def_state.proofs.ValueLemmas.{map_value}
use Rattle.def_state.proofs.entry_laws.maps_have_the_deciding_values.Goals as goal

pub returns : goal.returns
returns c = λ parents entries v key tree. value_in-lookup key (map_over parents entries v) ∙ map_value parents entries v tree key
