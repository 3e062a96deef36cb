use Rattle.def_promote.proofs.CompactedLemmas.{merged_compact}
use Rattle.def_promote.proofs.compacting.merged_groups_are_compacted.Goals as goal

pub returns : goal.returns
returns c = λ s j groups own seen plan room merges horizon split. merged_compact s j groups own seen plan room merges horizon split
