use Rattle.def_promote.proofs.CutLemmas.{takeable, shallow_taken}
use Rattle.def_promote.proofs.laws.levels_with_room_may_be_taken.Goals as goal

pub returns : goal.returns
returns c = record {
  takes = λ s j is least most room. takeable s is j least most room;
  shallow = λ j levels. shallow_taken j levels;
}
