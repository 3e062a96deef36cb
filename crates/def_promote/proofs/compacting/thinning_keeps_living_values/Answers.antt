use Rattle.std.proofs.Common.{length, not}
use Rattle.std.proofs.lemmas.Bool.{ltb-true, and_from, not_from_false}
use Rattle.strat_base.specs.Tree.{is_known}
use Rattle.strat_base.specs.Entries.{is_same_value}
use Rattle.strat_base.specs.Marks.{is_dropped}
use Rattle.strat_base.proofs.ListFacts.{all_at, all_from}
use Rattle.def_promote.specs.Thin.{value_above, thinned}
use Rattle.def_promote.proofs.ThinLemmas.{thin_values, thin_living, thin_differs, thinned_groups, thinned_are}
use Rattle.def_promote.proofs.KeptLemmas.{thin_kept}
use Rattle.def_promote.proofs.compacting.thinning_keeps_living_values.Goals as goal

pub returns : goal.returns
returns c = record {
  value = λ parents marks entries key v tree pruned single living. thin_values parents tree marks pruned entries single v key living;
  living = λ parents marks entries tree pruned single.
      all_from _ (thinned parents marks entries) (λ e among.
      and_from (not (is_dropped marks e.version)) (not (is_same_value e.value (value_above parents (thinned parents marks entries) e.version e.key)))
      (not_from_false (is_dropped marks e.version) (thin_living parents tree marks pruned entries single e among))
      (not_from_false (is_same_value e.value (value_above parents (thinned parents marks entries) e.version e.key)) (thin_differs parents tree marks pruned entries single e among)));
  counts = λ parents marks entries tree pruned single known.
      thin_kept parents tree marks pruned entries single (λ e among. ltb-true e.version (length parents) (all_at (λ d. is_known parents d.version) e entries known among));
  groups = λ parents marks groups grouped. thinned_groups parents marks groups grouped;
  kept = λ parents marks groups grouped. thinned_are parents marks groups grouped;
}
