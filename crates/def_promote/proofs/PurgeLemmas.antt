-- Purging changes no value: a mark that goes repeats that the parent sees none.
use Rattle.std.proofs.Common.{◌≡◌, ℕ, Bool, true, false, ◌||◌, List, Option, Some, None, is_some, refl, sym, ap, ◌∙◌, true≢false}
use Rattle.std.specs.Option.{option_and_then, option_map_or}
use Rattle.strat_base.specs.Tree.{Parents, parent_of, IsTree}
use Rattle.strat_base.specs.Entries.{Entry, is_single}
use Rattle.def_state.specs.Maps.{value_over}
use Rattle.def_promote.specs.Purge.{is_valued, is_needed, purged}
use Rattle.def_promote.specs.Thin.{value_above}
use Rattle.def_promote.proofs.DropLemmas.{drop_values}

none_of : (o : Option (List ℕ)) → is_some o ≡ false → o ≡ None
none_of None is = refl
none_of (Some value) is = absurd (true≢false is)

first_false : (a b : Bool) → (a || b) ≡ false → a ≡ false
first_false true b e = e
first_false false b e = refl

second_false : (a b : Bool) → (a || b) ≡ false → b ≡ false
second_false true b e = absurd (true≢false e)
second_false false b e = e

module _ (parents : Parents) (tree : IsTree parents) (entries : List Entry) (single : is_single entries ≡ true) (key : List ℕ) where
  -- an entry that is not needed has no value, nor has its version's parent
  unneeded_repeats : (e : Entry) → e.key ≡ key → is_needed parents entries e ≡ false → e.value ≡ value_above parents entries e.version key
  unneeded_repeats e of_key unneeded =
      none_of e.value (first_false (is_some e.value) (option_map_or (λ p. is_valued parents entries e.key p) (parent_of parents e.version) false) unneeded)
      ∙ sym (above (parent_of parents e.version)
      (ap (λ (q : List ℕ). option_map_or (λ p. is_valued parents entries q p) (parent_of parents e.version) false) (sym of_key)
      ∙ second_false (is_some e.value) (option_map_or (λ p. is_valued parents entries e.key p) (parent_of parents e.version) false) unneeded))
    where
      above : (o : Option ℕ) → option_map_or (λ p. is_valued parents entries key p) o false ≡ false → option_and_then (λ p. value_over parents entries p key) o ≡ None
      above None none = refl
      above (Some p) none = none_of (value_over parents entries p key) none

  pub purge_values : (v : ℕ) → value_over parents (purged parents entries) v key ≡ value_over parents entries v key
  purge_values v = drop_values parents tree entries single (is_needed parents entries) key v (λ e among of_key on drops. unneeded_repeats e of_key drops)
