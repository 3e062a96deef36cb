use Rattle.def_promote.proofs.PurgeLemmas.{purge_values}
use Rattle.def_promote.proofs.PromotedLemmas.{purged_groups, over_are}
use Rattle.def_promote.proofs.merging.purging_changes_no_value.Goals as goal

pub returns : goal.returns
returns c = record {
  value = λ parents entries key v tree single. purge_values parents tree entries single key v;
  groups = λ parents groups grouped. purged_groups parents groups grouped;
  kept = λ parents kept groups grouped. over_are parents kept groups grouped;
}
