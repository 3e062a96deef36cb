use Rattle.def_promote.proofs.CompactedLemmas.{compaction_replaces, compaction_says, compaction_sound, compaction_small, compaction_paid, groups_compact, compact_groups}
use Rattle.def_promote.proofs.compacting.a_compaction_says_the_same_in_little.Goals as goal

pub returns : goal.returns
returns c = record {
  replaces = λ s j entries plan first is r. compaction_replaces s is j entries plan first r;
  says = λ s j entries plan first compacted next_array is r. compaction_says s is j entries plan first r compacted next_array;
  sound = λ s j entries plan first compacted next_array sound r. compaction_sound s sound j entries plan first r compacted next_array;
  small = λ s j entries plan first compacted next_array is r. compaction_small s is j entries plan first r compacted next_array;
  paid = λ s j entries plan first compacted next_array is paid some r target. compaction_paid s is j entries plan first r some paid target compacted next_array;
  groups = λ s j groups own seen plan first is r. (groups_compact s is j groups own seen plan first r, compact_groups s is j groups own seen plan first r);
}
