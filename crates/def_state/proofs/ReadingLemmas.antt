-- Reading place by place gives what the state says.
use Rattle.std.proofs.Common.{◌≡◌, ◌<◌, ◌≤◌, ℕ, Bool, true, false, cond, inl, inr, List, [], ◌∷◌, ◌++◌, length, Option, Some, None, refl, sym, ap, ◌∙◌, subst, arith}
use Rattle.std.specs.List.{find}
use Rattle.std.specs.Option.{option_or}
use Rattle.std.proofs.lemmas.Bool.{cases_lt}
use Rattle.strat_base.specs.Tree.{Parents, path, below, IsTree}
use Rattle.strat_base.specs.Entries.{Entry, is_at}
use Rattle.def_state.specs.Live.{deciding}
use Rattle.strat_base.proofs.ListFacts.{Among, find_some}
use Rattle.strat_base.proofs.EntryLemmas.{is_at_version}
use Rattle.strat_base.proofs.ResultFacts.{option_cases}
use Rattle.strat_base.proofs.TreeLemmas.{parent_older, root_is_zero, along_path, from_path, self_on_path, path_le, below_here, below_up}
use Rattle.def_state.proofs.LiveLemmas.{deciding_root, deciding_up, deciding_some}

-- a search of two lists, the first of them first
pub find-append : {X : Type 0} (p : X → Bool) (xs ys : List X) → find p (xs ++ ys) ≡ option_or (find p xs) (find p ys)
find-append p [] ys = refl
find-append {X} p (x ∷ xs) ys =
    elim (p x) as (λ b. cond b (Some x) (find p (xs ++ ys)) ≡ option_or (cond b (Some x) (find p xs)) (find p ys)) [
      | true ↦ refl
      | false ↦ find-append p xs ys
    ]

pub or_none : {X : Type 0} (o : Option X) → option_or o None ≡ o
or_none None = refl
or_none (Some x) = refl

or_mix : (x y x' y' : Option Entry) → ((d : Entry) → x ≡ None → y ≡ Some d → x' ≡ None) → option_or (option_or x y) (option_or x' y') ≡ option_or (option_or x x') (option_or y y')
or_mix (Some x) y x' y' h = refl
or_mix None None x' y' h = refl
or_mix None (Some y) x' y' h = sym (ap (λ (o : Option Entry). option_or o (Some y)) (h y refl refl))

module _ (parents : Parents) (tree : IsTree parents) (key : List ℕ) where
  -- where no entry of the later places is nearer than one of the earlier, the earlier decide first
  pub deciding-append : (xs ys : List Entry) (v : ℕ) → ((e d : Entry) → Among e xs → Among d ys → Among e.version (path parents v) → Among d.version (path parents v) → e.version < d.version → ⊥)
      → deciding parents (xs ++ ys) key v ≡ option_or (deciding parents xs key v) (deciding parents ys key v)
  deciding-append xs ys v ordered = along_path parents tree
      (λ v. ((e d : Entry) → Among e xs → Among d ys → Among e.version (path parents v) → Among d.version (path parents v) → e.version < d.version → ⊥) → deciding parents (xs ++ ys) key v ≡ option_or (deciding parents xs key v) (deciding parents ys key v))
      (λ v none h.
      deciding_root parents tree (xs ++ ys) key v none
      ∙ or_none (find (is_at key v) (xs ++ ys)) ∙ find-append (is_at key v) xs ys
      ∙ sym (ap (λ (o : Option Entry). option_or o (deciding parents ys key v)) (deciding_root parents tree xs key v none ∙ or_none (find (is_at key v) xs))
      ∙ ap (option_or (find (is_at key v) xs)) (deciding_root parents tree ys key v none ∙ or_none (find (is_at key v) ys))))
      (λ v p some ih h.
      let older : p < v = parent_older parents tree v p some in
      let up : (w : ℕ) → Among w (path parents p) → Among w (path parents v) = λ w among. from_path parents tree w v p some (inr among) in
      deciding_up parents tree (xs ++ ys) key v p some
      ∙ ap (λ (o : Option Entry). option_or o (deciding parents (xs ++ ys) key p)) (find-append (is_at key v) xs ys)
      ∙ ap (option_or (option_or (find (is_at key v) xs) (find (is_at key v) ys))) (ih (λ e d a b on_e on_d lt. h e d a b (up e.version on_e) (up d.version on_d) lt))
      ∙ or_mix (find (is_at key v) xs) (find (is_at key v) ys) (deciding parents xs key p) (deciding parents ys key p) (λ d nothing found.
      elim (option_cases (deciding parents xs key p)) [
        | inl none ↦ none
        | inr e ↦
            let decides = deciding_some parents tree xs key p e.0 e.1 in
            let there = find_some (is_at key v) ys d found in
            let at : d.version ≡ v = is_at_version key v d there.1 in
            let le : e.0.version ≤ p = path_le parents tree e.0.version p decides.on_path in
            absurd (h e.0 d decides.among there.0 (up e.0.version decides.on_path) (subst (λ (x : ℕ). Among x (path parents v)) (sym at) (self_on_path parents tree v)) (omega (arith, at, le, older)))
      ])
      ∙ sym (ap (λ (o : Option Entry). option_or o (deciding parents ys key v)) (deciding_up parents tree xs key v p some)
      ∙ ap (option_or (option_or (find (is_at key v) xs) (deciding parents xs key p))) (deciding_up parents tree ys key v p some))) v ordered

  pub find_below : (entries : List Entry) (h v : ℕ) → ((e : Entry) → Among e entries → e.version < h) → h ≤ v → find (is_at key v) entries ≡ None
  find_below entries h v low le =
      elim (option_cases (find (is_at key v) entries)) [
        | inl none ↦ none
        | inr e ↦
            let there = find_some (is_at key v) entries e.0 e.1 in
            let at : e.0.version ≡ v = is_at_version key v e.0 there.1 in
            let lt : e.0.version < h = low e.0 there.0 in
            absurd (omega (arith, at, lt, le))
      ]

  -- entries of versions below a horizon decide a version as they do its nearest ancestor below the horizon
  pub deciding_below : (entries : List Entry) (h v : ℕ) → ((e : Entry) → Among e entries → e.version < h) → 0 < h → v < length parents → deciding parents entries key v ≡ deciding parents entries key (below parents v h)
  deciding_below entries h v low positive known = along_path parents tree (λ v. v < length parents → deciding parents entries key v ≡ deciding parents entries key (below parents v h))
      (λ v none k.
      let zero' : v ≡ 0 = root_is_zero parents tree v k none in
      ap (deciding parents entries key) (sym (below_here parents tree v h (omega arith))))
      (λ v p some ih k.
      let older : p < v = parent_older parents tree v p some in
      elim (cases_lt v h) [
        | inl lt ↦ ap (deciding parents entries key) (sym (below_here parents tree v h lt))
        | inr le ↦
            deciding_up parents tree entries key v p some
            ∙ ap (λ (o : Option Entry). option_or o (deciding parents entries key p)) (find_below entries h v low le)
            ∙ ih (omega arith)
            ∙ ap (deciding parents entries key) (sym (below_up parents tree v p h some le))
      ]) v known
