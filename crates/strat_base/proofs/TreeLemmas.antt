-- Paths in a tree of versions.
use Rattle.std.proofs.Common.{◌≡◌, ◌≢◌, ◌<◌, ◌≤◌, ℕ, zero, suc, Bool, true, false, cond, eqb, ltb, get_or, ◌⊎◌, inl, inr, List, [], ◌∷◌, ◌++◌, length, Option, Some, None, refl, sym, ap, ◌∙◌, subst, arith, unwrap_or, length-append}
use Rattle.std.specs.List.{find, slice_get}
use Rattle.std.specs.Option.{option_map_or, option_and_then}
use Rattle.std.proofs.lemmas.Bool.{eqb-true, eq-eqb, lt-ltb, le-ltb, cases_eq, cases_lt, cases_order}
use Rattle.std.proofs.lemmas.Option.{slice_get-get_or, slice_get_past}
use Rattle.strat_base.specs.Tree.{Parents, parent_of, climb, path, is_ancestor, below, IsOlder, IsTree}
use Rattle.strat_base.proofs.ListFacts.{Among, any_among, any_from}
use Rattle.strat_base.proofs.ResultFacts.{option_cases}

module _ (parents : Parents) (tree : IsTree parents) where
  pub parent_older : (v p : ℕ) → parent_of parents v ≡ Some p → p < v
  parent_older v p e = go (slice_get parents v) (tree.older v) e
    where
      go : (o : Option (Option ℕ)) → IsOlder v o → option_and_then (λ parent. parent) o ≡ Some p → p < v
      go None older is = absurd (cc)
      go (Some None) older is = absurd (cc)
      go (Some (Some q)) older is = let same : q ≡ p = cc in subst (λ (x : ℕ). x < v) same older

  pub root_is_zero : (v : ℕ) → v < length parents → parent_of parents v ≡ None → v ≡ 0
  root_is_zero v known e = go (slice_get parents v) refl (tree.older v) e
    where
      go : (o : Option (Option ℕ)) → slice_get parents v ≡ o → IsOlder v o → option_and_then (λ parent. parent) o ≡ None → v ≡ 0
      go None is older no_parent = let there : slice_get parents v ≡ Some (get_or parents v None) = slice_get-get_or parents v None known in absurd (cc)
      go (Some None) is older no_parent = older
      go (Some (Some q)) is older no_parent = absurd (cc)

  climb_root : (n v : ℕ) → parent_of parents v ≡ None → climb n parents v ≡ v ∷ []
  unfolding climb
  climb_root zero v e = refl
  climb_root (suc n) v e = ap (λ (o : Option ℕ). v ∷ option_map_or (λ p. climb n parents p) o []) e

  climb_up : (n v p : ℕ) → parent_of parents v ≡ Some p → climb (suc n) parents v ≡ v ∷ climb n parents p
  unfolding climb
  climb_up n v p e = ap (λ (o : Option ℕ). v ∷ option_map_or (λ p. climb n parents p) o []) e

  -- more steps than a version's number change nothing
  climb_enough : (n m v : ℕ) → v ≤ n → v ≤ m → climb n parents v ≡ climb m parents v
  climb_enough zero zero v a b = refl
  climb_enough zero (suc m) v a b =
      elim (option_cases (parent_of parents v)) [
        | inl none ↦ climb_root zero v none ∙ sym (climb_root (suc m) v none)
        | inr some ↦ let older : some.0 < v = parent_older v some.0 some.1 in absurd (omega arith)
      ]
  climb_enough (suc n) zero v a b =
      elim (option_cases (parent_of parents v)) [
        | inl none ↦ climb_root (suc n) v none ∙ sym (climb_root zero v none)
        | inr some ↦ let older : some.0 < v = parent_older v some.0 some.1 in absurd (omega arith)
      ]
  climb_enough (suc n) (suc m) v a b =
      elim (option_cases (parent_of parents v)) [
        | inl none ↦ climb_root (suc n) v none ∙ sym (climb_root (suc m) v none)
        | inr some ↦
            let older : some.0 < v = parent_older v some.0 some.1 in
            climb_up n v some.0 some.1 ∙ ap (λ (x : List ℕ). v ∷ x) (climb_enough n m some.0 (omega arith) (omega arith)) ∙ sym (climb_up m v some.0 some.1)
      ]

  pub path_root : (v : ℕ) → parent_of parents v ≡ None → path parents v ≡ v ∷ []
  path_root v e = climb_root v v e

  pub path_up : (v p : ℕ) → parent_of parents v ≡ Some p → path parents v ≡ v ∷ path parents p
  path_up v p e =
      let older : p < v = parent_older v p e in
      climb_enough v (suc v) v (omega arith) (omega arith) ∙ climb_up v v p e ∙ ap (λ (x : List ℕ). v ∷ x) (climb_enough v p p (omega arith) (omega arith))

  walk : (P : ℕ → Type 0) → ((v : ℕ) → parent_of parents v ≡ None → P v) → ((v p : ℕ) → parent_of parents v ≡ Some p → P p → P v) → (n v : ℕ) → v ≤ n → P v
  walk P root up zero v h =
      elim (option_cases (parent_of parents v)) [
        | inl none ↦ root v none
        | inr some ↦ let older : some.0 < v = parent_older v some.0 some.1 in absurd (omega arith)
      ]
  walk P root up (suc n) v h =
      elim (option_cases (parent_of parents v)) [
        | inl none ↦ root v none
        | inr some ↦ let older : some.0 < v = parent_older v some.0 some.1 in up v some.0 some.1 (walk P root up n some.0 (omega arith))
      ]

  -- what holds of roots, and of a version where it holds of its parent, holds of all
  pub along_path : (P : ℕ → Type 0) → ((v : ℕ) → parent_of parents v ≡ None → P v) → ((v p : ℕ) → parent_of parents v ≡ Some p → P p → P v) → (v : ℕ) → P v
  along_path P root up v = walk P root up v v (omega arith)

  pub on_root : (u v : ℕ) → parent_of parents v ≡ None → Among u (path parents v) → u ≡ v
  on_root u v none among = go (subst (Among u) (path_root v none) among)
    where
      go : Among u (v ∷ []) → u ≡ v
      go (inl here) = here
      go (inr there) = absurd there

  pub on_path : (u v p : ℕ) → parent_of parents v ≡ Some p → Among u (path parents v) → (u ≡ v) ⊎ Among u (path parents p)
  on_path u v p some among = subst (Among u) (path_up v p some) among

  pub from_path : (u v p : ℕ) → parent_of parents v ≡ Some p → (u ≡ v) ⊎ Among u (path parents p) → Among u (path parents v)
  from_path u v p some among = let P : List ℕ → Type 0 = Among u in subst P (sym (path_up v p some)) among

  pub self_on_path : (v : ℕ) → Among v (path parents v)
  self_on_path v =
      elim (option_cases (parent_of parents v)) [
        | inl none ↦ let P : List ℕ → Type 0 = Among v in subst P (sym (path_root v none)) (inl refl)
        | inr some ↦ from_path v v some.0 some.1 (inl refl)
      ]

  pub path_le : (u v : ℕ) → Among u (path parents v) → u ≤ v
  path_le u = along_path (λ v. Among u (path parents v) → u ≤ v)
      (λ v none among. let same : u ≡ v = on_root u v none among in omega arith)
      (λ v p some ih among.
      let older : p < v = parent_older v p some in
      elim (on_path u v p some among) [
        | inl here ↦ omega arith
        | inr there ↦ let le : u ≤ p = ih there in omega arith
      ])

  -- an ancestor's ancestor is one
  pub path_trans : (u w v : ℕ) → Among u (path parents w) → Among w (path parents v) → Among u (path parents v)
  path_trans u w v first = along_path (λ v. Among w (path parents v) → Among u (path parents v))
      (λ v none among. subst (λ (x : ℕ). Among u (path parents x)) (on_root w v none among) first)
      (λ v p some ih among.
      elim (on_path w v p some among) [
        | inl here ↦ subst (λ (x : ℕ). Among u (path parents x)) here first
        | inr there ↦ from_path u v p some (inr (ih there))
      ]) v

  -- of two versions on a path the older is an ancestor of the younger
  pub path_order : (u w v : ℕ) → Among u (path parents v) → Among w (path parents v) → u < w → Among u (path parents w)
  path_order u w v first second lt = along_path (λ v. Among u (path parents v) → Among w (path parents v) → Among u (path parents w))
      (λ v none a b. let x : u ≡ v = on_root u v none a in let y : w ≡ v = on_root w v none b in absurd (omega arith))
      (λ v p some ih a b.
      let older : p < v = parent_older v p some in
      elim (on_path w v p some b) [
        | inl here ↦ subst (λ (x : ℕ). Among u (path parents x)) (sym here) a
        | inr there ↦
            let le : w ≤ p = path_le w p there in
            elim (on_path u v p some a) [
              | inl same ↦ absurd (omega arith)
              | inr deeper ↦ ih deeper there
            ]
      ]) v first second

  -- an ancestor other than the version itself has a child on the path
  pub child_on_path : (u v : ℕ) → Among u (path parents v) → u ≢ v → (c : ℕ) × (parent_of parents c ≡ Some u) × Among c (path parents v)
  child_on_path u v first other = along_path (λ v. Among u (path parents v) → u ≢ v → (c : ℕ) × (parent_of parents c ≡ Some u) × Among c (path parents v))
      (λ v none a ne. absurd (ne (on_root u v none a)))
      (λ v p some ih a ne.
      elim (on_path u v p some a) [
        | inl here ↦ absurd (ne here)
        | inr there ↦
            elim (cases_eq u p) [
              | inl same ↦ (v, some ∙ ap (λ (x : ℕ). Some x) (sym same), self_on_path v)
              | inr apart ↦ let found = ih there apart in (found.0, found.1, from_path found.0 v p some (inr found.2))
            ]
      ]) v first other

  pub ancestor_among : (u v : ℕ) → is_ancestor parents u v ≡ true → Among u (path parents v)
  ancestor_among u v e =
      let found = any_among (λ w. eqb w u) (path parents v) e in
      subst (λ (x : ℕ). Among x (path parents v)) (eqb-true found.0 u found.2) found.1

  pub among_ancestor : (u v : ℕ) → Among u (path parents v) → is_ancestor parents u v ≡ true
  among_ancestor u v among = any_from (λ w. eqb w u) u (path parents v) among (eq-eqb u u refl)

  path_head : (v : ℕ) → (rest : List ℕ) × (path parents v ≡ v ∷ rest)
  path_head v =
      elim (option_cases (parent_of parents v)) [
        | inl none ↦ ([], path_root v none)
        | inr some ↦ (path parents some.0, path_up v some.0 some.1)
      ]

  pub below_here : (v h : ℕ) → v < h → below parents v h ≡ v
  below_here v h lt =
      let head = path_head v in
      let yes' : ltb v h ≡ true = lt-ltb v h lt in
      ap (λ (x : List ℕ). unwrap_or (find (λ u. ltb u h) x) 0) head.1 ∙ ap (λ (b : Bool). unwrap_or (cond b (Some v) (find (λ u. ltb u h) head.0)) 0) yes'

  pub below_up : (v p h : ℕ) → parent_of parents v ≡ Some p → h ≤ v → below parents v h ≡ below parents p h
  below_up v p h some le =
      let no' : ltb v h ≡ false = le-ltb v h le in
      ap (λ (x : List ℕ). unwrap_or (find (λ u. ltb u h) x) 0) (path_up v p some) ∙ ap (λ (b : Bool). unwrap_or (cond b (Some v) (find (λ u. ltb u h) (path parents p))) 0) no'

  pub below_found : (v h : ℕ) → v < length parents → 0 < h → Among (below parents v h) (path parents v) × (below parents v h < h)
  below_found v h known positive = along_path (λ v. v < length parents → Among (below parents v h) (path parents v) × (below parents v h < h))
      (λ v none is_known.
      let zero' : v ≡ 0 = root_is_zero v is_known none in
      let lt : v < h = omega arith in
      let at : below parents v h ≡ v = below_here v h lt in
      (subst (λ (x : ℕ). Among x (path parents v)) (sym at) (self_on_path v), omega (arith, at)))
      (λ v p some ih is_known.
      let older : p < v = parent_older v p some in
      elim (cases_lt v h) [
        | inl lt ↦
            let at : below parents v h ≡ v = below_here v h lt in
            (subst (λ (x : ℕ). Among x (path parents v)) (sym at) (self_on_path v), omega (arith, at))
        | inr le ↦
            let at : below parents v h ≡ below parents p h = below_up v p h some le in
            let there = ih (omega arith) in
            (subst (λ (x : ℕ). Among x (path parents v)) (sym at) (from_path (below parents p h) v p some (inr there.0)), omega (arith, at, there.1))
      ]) v known

  pub below_greatest : (u v h : ℕ) → Among u (path parents v) → u < h → u ≤ below parents v h
  below_greatest u v h among lt = along_path (λ v. Among u (path parents v) → u ≤ below parents v h)
      (λ v none a.
      let same : u ≡ v = on_root u v none a in
      let at : below parents v h ≡ v = below_here v h (omega arith) in
      omega (arith, at))
      (λ v p some ih a.
      let older : p < v = parent_older v p some in
      elim (cases_lt v h) [
        | inl below' ↦
            let at : below parents v h ≡ v = below_here v h below' in
            let le : u ≤ v = path_le u v a in
            omega (arith, at)
        | inr above ↦
            let at : below parents v h ≡ below parents p h = below_up v p h some above in
            elim (on_path u v p some a) [
              | inl here ↦ absurd (omega arith)
              | inr there ↦ let le : u ≤ below parents p h = ih there in omega (arith, at)
            ]
      ]) v among

-- one more version at the end leaves the older ones' entries
slice_get-push : {X : Type 0} (xs : List X) (x : X) (i : ℕ) → i < length xs → slice_get (xs ++ x ∷ []) i ≡ slice_get xs i
slice_get-push [] x i h = absurd (omega arith)
slice_get-push (y ∷ ys) x zero h = refl
slice_get-push (y ∷ ys) x (suc i) h = slice_get-push ys x i (omega arith)

slice_get-pushed : {X : Type 0} (xs : List X) (x : X) → slice_get (xs ++ x ∷ []) (length xs) ≡ Some x
slice_get-pushed [] x = refl
slice_get-pushed (y ∷ ys) x = slice_get-pushed ys x

module _ (parents : Parents) (tree : IsTree parents) (p : ℕ) (known : p < length parents) where
  -- a tree with one more child is a tree
  pub tree_grown : IsTree (parents ++ Some p ∷ [])
  tree_grown = record {
    some = omega (arith, length-append parents (Some p ∷ []), tree.some);
    older = λ v.
        elim (cases_order v (length parents)) [
          | inl same ↦
              let at : slice_get (parents ++ Some p ∷ []) v ≡ Some (Some p) = ap (slice_get (parents ++ Some p ∷ [])) same ∙ slice_get-pushed parents (Some p) in
              let here : IsOlder v (Some (Some p)) = omega arith in
              subst (IsOlder v) (sym at) here
          | inr apart ↦
              elim apart [
                | inl lt ↦ subst (IsOlder v) (sym (slice_get-push parents (Some p) v lt)) (tree.older v)
                | inr gt ↦
                    let at : slice_get (parents ++ Some p ∷ []) v ≡ None = slice_get_past (parents ++ Some p ∷ []) v (omega (arith, length-append parents (Some p ∷ []))) in
                    subst (IsOlder v) (sym at) tt
              ]
        ];
  }

  pub parent_kept : (v : ℕ) → v < length parents → parent_of (parents ++ Some p ∷ []) v ≡ parent_of parents v
  parent_kept v older = ap (λ (o : Option (Option ℕ)). option_and_then (λ parent. parent) o) (slice_get-push parents (Some p) v older)

  pub path_kept : (v : ℕ) → v < length parents → path (parents ++ Some p ∷ []) v ≡ path parents v
  path_kept v older = along_path parents tree (λ v. v < length parents → path (parents ++ Some p ∷ []) v ≡ path parents v)
      (λ v none h. path_root (parents ++ Some p ∷ []) tree_grown v (parent_kept v h ∙ none) ∙ sym (path_root parents tree v none))
      (λ v q some ih h.
      let less : q < v = parent_older parents tree v q some in
      path_up (parents ++ Some p ∷ []) tree_grown v q (parent_kept v h ∙ some) ∙ ap (λ (x : List ℕ). v ∷ x) (ih (omega arith)) ∙ sym (path_up parents tree v q some)) v older

  pub path_child : path (parents ++ Some p ∷ []) (length parents) ≡ length parents ∷ path parents p
  path_child =
      path_up (parents ++ Some p ∷ []) tree_grown (length parents) p (ap (λ (o : Option (Option ℕ)). option_and_then (λ parent. parent) o) (slice_get-pushed parents (Some p)))
      ∙ ap (λ (x : List ℕ). length parents ∷ x) (path_kept p known)
