-- Thinning changes no value of a living version, and leaves what tells something.
use Rattle.std.proofs.Common.{◌≡◌, ℕ, true, false, ◌&&◌, not, inl, inr, List, map, Option, Some, None, refl, sym, ap, ◌∙◌, true≢false}
use Rattle.std.specs.Option.{option_and_then}
use Rattle.std.proofs.lemmas.Bool.{cases_Bool, and_parts, and_from, not-true, not_from_false}
use Rattle.std.proofs.lemmas.List.Folds.{flat_map-map}
use Rattle.strat_base.specs.Tree.{Parents, parent_of, IsTree}
use Rattle.strat_base.specs.Marks.{Marks, is_dropped, ArePruned}
use Rattle.strat_base.specs.Entries.{Entry, is_single, is_ascending, is_same_value}
use Rattle.def_state.specs.Maps.{value_over}
use Rattle.strat_base.proofs.ListFacts.{Among, filter_among}
use Rattle.strat_base.proofs.EntryLemmas.{bytes_same, same_bytes}
use Rattle.def_state.proofs.MarkLemmas.{parent_living, path_living}
use Rattle.def_split.specs.Groups.{grouped_entries, AreGroups}
use Rattle.def_split.proofs.ListLemmas.{filter_ascending}
use Rattle.def_split.proofs.GroupedLemmas.{filter_groups}
use Rattle.def_promote.specs.Thin.{value_above, is_telling, thinned}
use Rattle.def_promote.proofs.UnionLemmas.{deciding_finds}
use Rattle.def_promote.proofs.PromotedLemmas.{find_in_group, kept_keyed, kept_apart}
use Rattle.def_promote.proofs.DropLemmas.{value_of, drop_values}

same_value : (a b : Option (List ℕ)) → is_same_value a b ≡ true → a ≡ b
same_value None None is = refl
same_value None (Some y) is = absurd (true≢false (sym is))
same_value (Some x) None is = absurd (true≢false (sym is))
same_value (Some x) (Some y) is = ap (λ (z : List ℕ). Some z) (bytes_same x y is)

pub value_same : (a : Option (List ℕ)) → is_same_value a a ≡ true
value_same None = refl
value_same (Some x) = same_bytes x x refl

-- what tells something is at a living version, and its parent has something else
module _ (parents : Parents) (marks : Marks) (entries : List Entry) (e : Entry) where
  pub telling_parts : is_telling parents marks entries e ≡ true → (is_dropped marks e.version ≡ false) × (is_same_value e.value (value_above parents entries e.version e.key) ≡ false)
  telling_parts tells =
      let parts = and_parts (not (is_dropped marks e.version)) (not (is_same_value e.value (value_above parents entries e.version e.key))) tells in
      (not-true (is_dropped marks e.version) parts.0, not-true (is_same_value e.value (value_above parents entries e.version e.key)) parts.1)

  pub telling_from : is_dropped marks e.version ≡ false → is_same_value e.value (value_above parents entries e.version e.key) ≡ false → is_telling parents marks entries e ≡ true
  telling_from living differs =
      and_from (not (is_dropped marks e.version)) (not (is_same_value e.value (value_above parents entries e.version e.key)))
      (not_from_false (is_dropped marks e.version) living) (not_from_false (is_same_value e.value (value_above parents entries e.version e.key)) differs)

module _ (parents : Parents) (tree : IsTree parents) (marks : Marks) (pruned : ArePruned parents marks) (entries : List Entry) (single : is_single entries ≡ true) where
  -- what goes at a living version repeats what its parent has
  silent_repeats : (e : Entry) → is_dropped marks e.version ≡ false → is_telling parents marks entries e ≡ false → e.value ≡ value_above parents entries e.version e.key
  silent_repeats e living silent =
      elim (cases_Bool (is_same_value e.value (value_above parents entries e.version e.key))) [
        | inl same ↦ same_value e.value (value_above parents entries e.version e.key) same
        | inr other ↦ absurd (true≢false (sym (telling_from parents marks entries e living other) ∙ silent))
      ]

  pub thin_values : (v : ℕ) (key : List ℕ) → is_dropped marks v ≡ false → value_over parents (thinned parents marks entries) v key ≡ value_over parents entries v key
  thin_values v key living =
      drop_values parents tree entries single (is_telling parents marks entries) key v (λ e among of_key on drops.
      silent_repeats e (path_living parents tree marks pruned e.version v on living) drops ∙ ap (value_above parents entries e.version) of_key)

  -- what is left is at living versions
  pub thin_living : (e : Entry) → Among e (thinned parents marks entries) → is_dropped marks e.version ≡ false
  thin_living e among = (telling_parts parents marks entries e (filter_among (is_telling parents marks entries) entries e among).1).0

  above_thinned : (v : ℕ) (key : List ℕ) → is_dropped marks v ≡ false → value_above parents (thinned parents marks entries) v key ≡ value_above parents entries v key
  above_thinned v key living = go (parent_of parents v) refl
    where
      go : (o : Option ℕ) → parent_of parents v ≡ o → option_and_then (λ p. value_over parents (thinned parents marks entries) p key) o ≡ option_and_then (λ p. value_over parents entries p key) o
      go None is = refl
      go (Some p) is = thin_values p key (parent_living parents tree marks pruned v p is living)

  -- and differs from what the parent has, also among what is left
  pub thin_differs : (e : Entry) → Among e (thinned parents marks entries) → is_same_value e.value (value_above parents (thinned parents marks entries) e.version e.key) ≡ false
  thin_differs e among =
      let tells = telling_parts parents marks entries e (filter_among (is_telling parents marks entries) entries e among).1 in
      ap (is_same_value e.value) (above_thinned e.version e.key tells.0) ∙ tells.1

-- group by group

module _ (parents : Parents) (marks : Marks) (groups : List (List Entry)) (grouped : AreGroups groups) where
  telling_in_group : (group : List Entry) → Among group groups → (e : Entry) → Among e group → is_telling parents marks (grouped_entries groups) e ≡ is_telling parents marks group e
  telling_in_group group among e there =
      ap (λ (o : Option (List ℕ)). not (is_dropped marks e.version) && not (is_same_value e.value o)) (go (parent_of parents e.version))
    where
      go : (o : Option ℕ) → option_and_then (λ p. value_over parents (grouped_entries groups) p e.key) o ≡ option_and_then (λ p. value_over parents group p e.key) o
      go None = refl
      go (Some p) = ap (λ (d : Option Entry). value_of d) (deciding_finds parents (grouped_entries groups) group e.key (λ u. find_in_group parents groups grouped group among e there u) p)

  pub thinned_groups : grouped_entries (map (thinned parents marks) groups) ≡ thinned parents marks (grouped_entries groups)
  thinned_groups =
      flat_map-map (λ (group : List Entry). group) (thinned parents marks) groups
      ∙ sym (filter_groups (is_telling parents marks (grouped_entries groups)) (λ group. is_telling parents marks group) groups (λ group among e there. telling_in_group group among e there))

  pub thinned_are : AreGroups (map (thinned parents marks) groups)
  thinned_are = record {
    keyed = kept_keyed (λ group. is_telling parents marks group) groups grouped.keyed;
    apart = kept_apart (λ group. is_telling parents marks group) groups grouped.apart;
    ascending = ap is_ascending thinned_groups ∙ filter_ascending (is_telling parents marks (grouped_entries groups)) (grouped_entries groups) grouped.ascending;
  }
