use Rattle.std.proofs.Common.{sym}
use Rattle.def_split.proofs.CountedLemmas.{own_groups, live_count}
use Rattle.def_split.proofs.laws.versions_of_groups_tell_their_counts.Goals as goal

pub returns : goal.returns
returns c = record {
  own = λ groups v. sym (own_groups groups v);
  live = λ parents groups v tree grouped. sym (live_count parents tree groups grouped v);
}
