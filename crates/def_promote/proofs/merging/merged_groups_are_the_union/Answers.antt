use Rattle.def_promote.proofs.MergingLemmas.{merged, merged_more}
use Rattle.def_promote.proofs.merging.merged_groups_are_the_union.Goals as goal

pub returns : goal.returns
returns c = record {
  union = λ runs groups merges. (merged runs groups merges).0;
  groups = λ runs groups merges. (merged runs groups merges).1;
  more = λ runs groups left key group steps next. merged_more runs groups left steps key group next;
}
