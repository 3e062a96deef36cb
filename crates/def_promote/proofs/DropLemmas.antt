-- Entries that repeat what the parent has may be dropped: no value changes.
use Rattle.std.proofs.Common.{◌≡◌, ℕ, Bool, true, false, inl, inr, List, filter, Option, Some, None, refl, sym, ap, ◌∙◌, subst, true≢false}
use Rattle.std.specs.List.{find}
use Rattle.std.specs.Option.{option_or, option_and_then}
use Rattle.std.proofs.lemmas.Bool.{cases_Bool}
use Rattle.strat_base.specs.Tree.{Parents, path, IsTree}
use Rattle.strat_base.specs.Entries.{Entry, is_at, is_single}
use Rattle.def_state.specs.Live.{deciding}
use Rattle.def_state.specs.Maps.{value_over}
use Rattle.strat_base.proofs.ListFacts.{Among, find_some, find_none, among_filter, filter_among}
use Rattle.strat_base.proofs.EntryLemmas.{is_at_key, is_at_version}
use Rattle.strat_base.proofs.ResultFacts.{option_cases}
use Rattle.strat_base.proofs.TreeLemmas.{along_path, self_on_path, from_path}
use Rattle.def_state.proofs.LiveLemmas.{deciding_root, deciding_up, single_filter}
use Rattle.def_promote.specs.Thin.{value_above}
use Rattle.def_promote.proofs.UnionLemmas.{find_at}

-- what is found among entries is found among those kept, where it is kept, and else nothing is
module _ (keep : Entry → Bool) (entries : List Entry) (single : is_single entries ≡ true) (key : List ℕ) (u : ℕ) where
  kept_none : find (is_at key u) entries ≡ None → find (is_at key u) (filter keep entries) ≡ None
  kept_none none =
      elim (option_cases (find (is_at key u) (filter keep entries))) [
        | inl nothing ↦ nothing
        | inr found ↦
            let there = find_some (is_at key u) (filter keep entries) found.0 found.1 in
            absurd (true≢false (sym there.1 ∙ find_none (is_at key u) entries found.0 none (filter_among keep entries found.0 there.0).0))
      ]

  kept_found : (e : Entry) → find (is_at key u) entries ≡ Some e → keep e ≡ true → find (is_at key u) (filter keep entries) ≡ Some e
  kept_found e found keeps =
      let there = find_some (is_at key u) entries e found in
      find_at (filter keep entries) key u e (single_filter keep entries single) (among_filter keep entries e there.0 keeps) there.1

  kept_lost : (e : Entry) → find (is_at key u) entries ≡ Some e → keep e ≡ false → find (is_at key u) (filter keep entries) ≡ None
  kept_lost e found drops =
      elim (option_cases (find (is_at key u) (filter keep entries))) [
        | inl nothing ↦ nothing
        | inr other ↦
            let there = find_some (is_at key u) (filter keep entries) other.0 other.1 in
            let kept = filter_among keep entries other.0 there.0 in
            let same : Some e ≡ Some other.0 = sym found ∙ find_at entries key u other.0 single kept.0 there.1 in
            let equal : e ≡ other.0 = cc in
            absurd (true≢false (sym kept.1 ∙ ap keep (sym equal) ∙ drops))
      ]

-- what an entry says, if there is one
abbrev pub value_of : Option Entry → Option (List ℕ)
value_of o = option_and_then (λ e. e.value) o

module _ (parents : Parents) (tree : IsTree parents) (entries : List Entry) (single : is_single entries ≡ true) (keep : Entry → Bool) (key : List ℕ) where
  -- what is dropped of a key on the path to a version says what its own version's parent has
  abbrev pub Repeats : ℕ → Type 0
  Repeats v = (e : Entry) → Among e entries → e.key ≡ key → Among e.version (path parents v) → keep e ≡ false → e.value ≡ value_above parents entries e.version key

  -- a step down the path, from where the values are alike
  step : (v : ℕ) (x y : Option Entry) → value_of x ≡ value_of y → ((e : Entry) → find (is_at key v) entries ≡ Some e → keep e ≡ false → e.value ≡ value_of y)
      → value_of (option_or (find (is_at key v) (filter keep entries)) x) ≡ value_of (option_or (find (is_at key v) entries) y)
  step v x y same repeats =
      elim (option_cases (find (is_at key v) entries)) [
        | inl nothing ↦
            ap (λ (o : Option Entry). value_of (option_or o x)) (kept_none keep entries single key v nothing) ∙ same
            ∙ sym (ap (λ (o : Option Entry). value_of (option_or o y)) nothing)
        | inr found ↦
            elim (cases_Bool (keep found.0)) [
              | inl keeps ↦
                  ap (λ (o : Option Entry). value_of (option_or o x)) (kept_found keep entries single key v found.0 found.1 keeps)
                  ∙ sym (ap (λ (o : Option Entry). value_of (option_or o y)) found.1)
              | inr drops ↦
                  ap (λ (o : Option Entry). value_of (option_or o x)) (kept_lost keep entries single key v found.0 found.1 drops) ∙ same
                  ∙ sym (repeats found.0 found.1 drops)
                  ∙ sym (ap (λ (o : Option Entry). value_of (option_or o y)) found.1)
            ]
      ]

  found_at : (v : ℕ) → Repeats v → (o : Option (List ℕ)) → value_above parents entries v key ≡ o → (e : Entry) → find (is_at key v) entries ≡ Some e → keep e ≡ false → e.value ≡ o
  found_at v repeats o above e found drops =
      let there = find_some (is_at key v) entries e found in
      let version : e.version ≡ v = is_at_version key v e there.1 in
      repeats e there.0 (is_at_key key v e there.1) (subst (λ (u : ℕ). Among u (path parents v)) (sym version) (self_on_path parents tree v)) drops
      ∙ ap (λ (u : ℕ). value_above parents entries u key) version ∙ above

  pub drop_values : (v : ℕ) → Repeats v → value_over parents (filter keep entries) v key ≡ value_over parents entries v key
  drop_values = along_path parents tree (λ v. Repeats v → value_over parents (filter keep entries) v key ≡ value_over parents entries v key)
      (λ v none repeats.
      ap value_of (deciding_root parents tree (filter keep entries) key v none)
      ∙ step v None None refl (found_at v repeats None (ap (λ (o : Option ℕ). option_and_then (λ p. value_over parents entries p key) o) none))
      ∙ sym (ap value_of (deciding_root parents tree entries key v none)))
      (λ v p some ih repeats.
      ap value_of (deciding_up parents tree (filter keep entries) key v p some)
      ∙ step v (deciding parents (filter keep entries) key p) (deciding parents entries key p)
      (ih (λ e among of_key on. repeats e among of_key (from_path parents tree e.version v p some (inr on))))
      (found_at v repeats (value_over parents entries p key) (ap (λ (o : Option ℕ). option_and_then (λ q. value_over parents entries q key) o) some))
      ∙ sym (ap value_of (deciding_up parents tree entries key v p some)))
