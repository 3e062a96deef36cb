use Rattle.def_promote.proofs.UniqueLemmas.{one_merge, merge_goes_on}
use Rattle.def_promote.proofs.merging.merges_are_unique.Goals as goal

pub returns : goal.returns
returns c = record {
  more = λ runs all groups left key group merges steps next. merge_goes_on runs all groups left key group merges steps next;
  end = λ runs all groups left merges steps none. one_merge runs all groups left merges steps none;
  same = λ runs all groups merges again. one_merge runs all groups again.0 merges again.1 again.2;
}
