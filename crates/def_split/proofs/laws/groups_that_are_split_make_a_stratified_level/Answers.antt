use Rattle.std.proofs.Common.{sym}
use Rattle.def_state.specs.State.{versions_of}
use Rattle.def_split.proofs.LawLemmas.{groups_stratified, groups_described, groups_ascend, groups_held}
use Rattle.def_split.proofs.GroupedLemmas.{level_groups}
use Rattle.def_split.proofs.laws.groups_that_are_split_make_a_stratified_level.Goals as goal

pub returns : goal.returns
returns c = record {
  stratified = λ parents groups own seen plan number first tree splits. groups_stratified parents tree groups own seen plan number first splits;
  described = λ s groups own seen plan number first tree splits. groups_described (versions_of s) tree groups own seen plan number first splits;
  ascending = λ parents groups own seen plan number first tree splits. groups_ascend parents tree groups own seen plan number first splits;
  leads = λ parents groups own seen plan number first tree splits e. groups_held parents tree groups own seen plan number first splits e;
  same = λ parents groups plan number first tree grouped. sym (level_groups parents tree groups grouped plan number first);
}
