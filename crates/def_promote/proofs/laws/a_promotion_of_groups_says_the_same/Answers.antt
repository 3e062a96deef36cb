use Rattle.def_split.specs.Groups.{grouped_entries}
use Rattle.def_state.specs.State.{versions_of}
use Rattle.def_state.proofs.SoundLemmas.{ordered}
use Rattle.def_promote.specs.Purge.{entries_over}
use Rattle.def_promote.specs.Promoted.{fresh_of_groups}
use Rattle.def_promote.proofs.ReplacedLemmas.{replaced_sound}
use Rattle.def_promote.proofs.PromotedLemmas.{groups_say, groups_replace, groups_levels}
use Rattle.def_promote.proofs.laws.a_promotion_of_groups_says_the_same.Goals as goal

pub returns : goal.returns
returns c = record {
  replaces = λ s j taken kept groups own seen plan first is r. groups_replace s is j taken kept groups own seen plan first r;
  says = λ s j taken kept groups own seen plan first written next_array is r. groups_say s is j taken kept groups own seen plan first r written next_array;
  sound = λ s j taken kept groups own seen plan first written next_array sound r.
      replaced_sound s sound j taken kept (fresh_of_groups s j kept groups plan first) (grouped_entries groups) (entries_over (versions_of s) kept (grouped_entries groups))
      (groups_replace s (ordered s sound) j taken kept groups own seen plan first r) written next_array;
  same = λ s j taken kept groups own seen plan first is r. groups_levels s is j taken kept groups own seen plan first r;
}
