use Rattle.std.proofs.Common.{arith}
use Rattle.def_split.specs.Groups.{grouped_entries}
use Rattle.def_state.specs.State.{versions_of}
use Rattle.def_promote.specs.Purge.{entries_over}
use Rattle.def_promote.specs.Promoted.{fresh_after, fresh_of_groups}
use Rattle.def_promote.proofs.PromotedLemmas.{promotion_replaces, groups_replace}
use Rattle.def_promote.proofs.PaidLemmas.{paid_after, updates_few}
use Rattle.def_promote.proofs.laws.a_promotion_is_paid_for.Goals as goal

pub returns : goal.returns
returns c = record {
  replaced = λ s j taken kept fresh entries over next_array is paid some honest r low least. paid_after s is some honest paid j taken kept fresh entries over r low least next_array;
  promoted = λ s j taken kept entries plan first next_array is paid some honest r low least.
      paid_after s is some honest paid j taken kept (fresh_after s j kept entries plan first) entries (entries_over (versions_of s) kept entries) (promotion_replaces s is j taken kept entries plan first r) low least next_array;
  groups = λ s j taken kept groups own seen plan first next_array is paid some honest r low least.
      paid_after s is some honest paid j taken kept (fresh_of_groups s j kept groups plan first) (grouped_entries groups) (entries_over (versions_of s) kept (grouped_entries groups))
      (groups_replace s is j taken kept groups own seen plan first r) low least next_array;
  updates = λ s honest. let few = updates_few s.journal in omega (arith, few, honest);
}
