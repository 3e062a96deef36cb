use Rattle.std.proofs.Common.{ap, sym, ◌∙◌, Option, Bool, cond, []}
use Rattle.std.proofs.lemmas.Bool.{not-true}
use Rattle.std.specs.Map.{lookup}
use Rattle.std.specs.Ordering.{is_eq}
use Rattle.strat_base.specs.Order.{key_cmp}
use Rattle.strat_base.specs.Marks.{is_dropped}
use Rattle.def_state.specs.Maps.{map_over}
use Rattle.std.specs.Option.{option_and_then}
use Rattle.strat_base.specs.Entries.{Entry}
use Rattle.def_state.specs.State.{versions_of, marks_of, sources}
use Rattle.def_state.proofs.MapLemmas.{value_in-lookup}
use Rattle.def_state.proofs.SoundLemmas.{sound_tree, read_decides}
use Rattle.def_state.proofs.ValueLemmas.{map_value}
use Rattle.def_state.proofs.laws.the_first_place_decides.Goals as goal

pub returns : goal.returns
returns c = record {
  entry = λ s v key sound known living. read_decides s sound key v known (not-true (is_dropped (marks_of s) v) living);
  value = λ s v key sound known living. ap (λ (o : Option Entry). option_and_then (λ e. e.value) o) (read_decides s sound key v known (not-true (is_dropped (marks_of s) v) living));
  map = λ s v key sound known living. ap (λ (o : Option Entry). option_and_then (λ e. e.value) o) (read_decides s sound key v known (not-true (is_dropped (marks_of s) v) living)) ∙ sym (map_value (versions_of s) (sources s) v (sound_tree s sound.formed) key) ∙ sym (value_in-lookup key (map_over (versions_of s) (sources s) v)) ∙ sym (ap (λ (b : Bool). lookup (λ k. is_eq (key_cmp key k)) (cond b (map_over (versions_of s) (sources s) v) [])) living);
}
