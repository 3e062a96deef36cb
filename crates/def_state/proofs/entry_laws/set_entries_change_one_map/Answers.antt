use Rattle.strat_base.proofs.TreeLemmas.{among_ancestor}
use Rattle.std.proofs.Common.{Some, None, ◌∙◌}
use Rattle.def_state.proofs.SettingLemmas.{map_set}
use Rattle.def_state.proofs.ValueLemmas.{map_put, map_delete}
use Rattle.def_state.proofs.entry_laws.set_entries_change_one_map.Goals as goal

pub returns : goal.returns
returns c = record {
  ok = λ parents entries v key value u tree leaf.
      map_set parents tree (record { key = key; version = v; value = Some value }) entries u ∙ map_put parents tree entries v key u (λ on. leaf (among_ancestor parents tree v u on)) value;
  none = λ parents entries v key u tree leaf.
      map_set parents tree (record { key = key; version = v; value = None }) entries u ∙ map_delete parents tree entries v key u (λ on. leaf (among_ancestor parents tree v u on));
}
