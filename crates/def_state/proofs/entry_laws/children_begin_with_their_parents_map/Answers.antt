use Rattle.std.proofs.Common.{length}
use Rattle.std.proofs.lemmas.Bool.{ltb-true}
use Rattle.strat_base.specs.Tree.{is_known}
use Rattle.strat_base.proofs.ListFacts.{all_at}
use Rattle.def_state.proofs.ValueLemmas.{map_kept, map_child}
use Rattle.def_state.proofs.entry_laws.children_begin_with_their_parents_map.Goals as goal

pub returns : goal.returns
returns c = record {
  same = λ parents entries p u tree here older. map_kept parents tree p here entries u older;
  ok = λ parents entries p tree here known.
      map_child parents tree p here entries (λ e among. ltb-true e.version (length parents) (all_at (λ d. is_known parents d.version) e entries known among));
}
