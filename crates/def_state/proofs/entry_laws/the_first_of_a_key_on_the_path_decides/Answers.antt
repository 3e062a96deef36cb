use Rattle.std.proofs.Common.{sym}
use Rattle.def_state.proofs.LevelLemmas.{ascending_single}
use Rattle.def_state.proofs.LiveLemmas.{deciding_live}
use Rattle.def_state.proofs.GroupLemmas.{deciding_group}
use Rattle.def_state.proofs.entry_laws.the_first_of_a_key_on_the_path_decides.Goals as goal

pub returns : goal.returns
returns c = record {
  found = λ parents entries key v tree up. deciding_group parents tree entries up key v;
  same = λ parents entries key v tree up. sym (deciding_live parents tree entries key v (ascending_single entries up));
}
