use Rattle.def_state.specs.Setting.{set_entry}
use Rattle.def_state.proofs.LevelLemmas.{ascending_single}
use Rattle.def_state.proofs.SettingLemmas.{set_ascending, length_set, find_set}
use Rattle.def_state.proofs.entry_laws.setting_keeps_entries_in_order.Goals as goal

pub returns : goal.returns
returns c = record {
  kept = λ e entries up. (set_ascending e entries up, ascending_single (set_entry e entries) (set_ascending e entries up));
  len = length_set;
  found = λ e entries key u. find_set key u e entries;
}
