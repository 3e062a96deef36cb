-- Intervals of versions, and that an order made of them tells ancestors.
use Rattle.std.proofs.Common.{◌≡◌, ◌<◌, ◌≤◌, ℕ, zero, suc, eqb, ltb, leb, ◌&&◌, get_or, ◌⊎◌, inl, inr, List, [], ◌∷◌, length, Option, Some, refl, sym, ap, ◌∙◌, subst, arith}
use Rattle.std.proofs.lemmas.Bool.{cases_Bool, cases_eq, cases_order, and_from, and_parts, le-leb, leb-true, lt-ltb, ltb-true}
use Rattle.std.specs.List.{list_any}
use Rattle.std.specs.Option.{option_map_or}
use Rattle.strat_base.specs.Tree.{Parents, parent_of, climb, path, is_ancestor, IsTree}
use Rattle.strat_base.proofs.ListFacts.{Among}
use Rattle.strat_base.proofs.ResultFacts.{option_cases}
use Rattle.strat_base.proofs.TreeLemmas.{parent_older, root_is_zero, along_path, on_root, on_path, from_path, self_on_path, path_le, child_on_path, ancestor_among, among_ancestor}
use Rattle.strat_tree.specs.Preorder.{IsPreorder}
use Rattle.strat_tree.specs.Intervals.{AreIntervals}

-- how the intervals of two versions stand: one version is above the other, or the intervals are apart
data Stand (parents : Parents) (start stop : ℕ → ℕ) (u v : ℕ) : Type 0 where
  above : Among u (path parents v) → Stand parents start stop u v
  under : Among v (path parents u) → Stand parents start stop u v
  before : stop u ≤ start v → Stand parents start stop u v
  behind : stop v ≤ start u → Stand parents start stop u v

module _ (parents : Parents) (tree : IsTree parents) where
  -- version 0 is above every version
  root_above : (v : ℕ) → v < length parents → Among 0 (path parents v)
  root_above = along_path parents tree (λ v. v < length parents → Among 0 (path parents v))
      (λ v none known.
      let root : v ≡ 0 = root_is_zero parents tree v known none in
      subst (λ (x : ℕ). Among x (path parents v)) root (self_on_path parents tree v))
      (λ v p some ih known.
      let older : p < v = parent_older parents tree v p some in
      from_path parents tree 0 v p some (inr (ih (omega arith))))

module _ (parents : Parents) (tree : IsTree parents) (n : ℕ) (few : n ≤ length parents) (start stop : ℕ → ℕ) (laid : AreIntervals parents n start stop) where
  -- the interval of a version lies within each of those above it
  held : (u v : ℕ) → v < n → Among u (path parents v) → (start u ≤ start v) × (stop v ≤ stop u)
  held u = along_path parents tree (λ v. v < n → Among u (path parents v) → (start u ≤ start v) × (stop v ≤ stop u))
      (λ v none known among. let same : u ≡ v = on_root parents tree u v none among in rw same (omega arith, omega arith))
      (λ v p some ih known among.
      let older : p < v = parent_older parents tree v p some in
      elim (on_path parents tree u v p some among) [
        | inl same ↦ rw same (omega arith, omega arith)
        | inr there ↦
            let up = ih (omega arith) there in
            let in_parent = laid.within v p known some in
            (omega arith, omega arith)
      ])

  -- and begins behind its own number
  later : (u v : ℕ) → v < n → Among u (path parents v) → (u ≡ v) ⊎ (start u < start v)
  later u = along_path parents tree (λ v. v < n → Among u (path parents v) → (u ≡ v) ⊎ (start u < start v))
      (λ v none known among. inl (on_root parents tree u v none among))
      (λ v p some ih known among.
      let older : p < v = parent_older parents tree v p some in
      elim (on_path parents tree u v p some among) [
        | inl same ↦ inl same
        | inr there ↦
            let up = held u p (omega arith) there in
            let in_parent = laid.within v p known some in
            inr (omega arith)
      ])

  stand_under_child : (u v p c : ℕ) → u < n → v < n → parent_of parents v ≡ Some p → parent_of parents c ≡ Some p → Among c (path parents u) → Stand parents start stop u v
  stand_under_child u v p c known_u known_v some of_c among =
      let le : c ≤ u = path_le parents tree c u among in
      let hold = held c u known_u among in
      elim (cases_order c v) [
        | inl same ↦ under (subst (λ (x : ℕ). Among x (path parents u)) same among)
        | inr (inl lt) ↦ let gap : stop c ≤ start v = laid.apart c v p lt known_v of_c some in before (omega arith)
        | inr (inr gt) ↦ let gap : stop v ≤ start c = laid.apart v c p gt (omega arith) some of_c in behind (omega arith)
      ]

  stand : (u : ℕ) → u < n → (v : ℕ) → v < n → Stand parents start stop u v
  stand u known_u = along_path parents tree (λ v. v < n → Stand parents start stop u v)
      (λ v none known.
      let root : v ≡ 0 = root_is_zero parents tree v (omega arith) none in
      under (subst (λ (x : ℕ). Among x (path parents u)) (sym root) (root_above parents tree u (omega arith))))
      (λ v p some ih known.
      let older : p < v = parent_older parents tree v p some in
      let in_parent = laid.within v p known some in
      elim (ih (omega arith)) [
        | above among ↦ above (from_path parents tree u v p some (inr among))
        | under among ↦
            elim (cases_eq p u) [
              | inl same ↦ above (from_path parents tree u v p some (inr (subst (λ (x : ℕ). Among x (path parents p)) same (self_on_path parents tree p))))
              | inr other ↦
                  let child = child_on_path parents tree p u among other in
                  stand_under_child u v p child.0 known_u known some child.1 child.2
            ]
        | before gap ↦ before (omega arith)
        | behind gap ↦ behind (omega arith)
      ])

  -- a version whose number stands in the interval of u is u or one of its descendants
  found_within : (u v : ℕ) → u < n → v < n → start u ≤ start v → start v < stop u → Among u (path parents v)
  found_within u v known_u known_v le lt =
      let some : start v < stop v = laid.some v known_v in
      elim (stand u known_u v known_v) [
        | above among ↦ among
        | under among ↦
            elim (later v u known_u among) [
              | inl same ↦ subst (λ (x : ℕ). Among x (path parents v)) same (self_on_path parents tree v)
              | inr gt ↦ absurd (omega arith)
            ]
        | before gap ↦ absurd (omega arith)
        | behind gap ↦ absurd (omega arith)
      ]

  -- the number of a version tells its ancestors
  pub ancestors_span : (u v : ℕ) → u < n → v < n → is_ancestor parents u v ≡ (leb (start u) (start v) && ltb (start v) (stop u))
  ancestors_span u v known_u known_v =
      let some : start v < stop v = laid.some v known_v in
      elim (cases_Bool (is_ancestor parents u v)) [
        | inl yes' ↦
            let hold = held u v known_v (ancestor_among parents tree u v yes') in
            yes' ∙ sym (and_from (leb (start u) (start v)) (ltb (start v) (stop u)) (le-leb (start u) (start v) hold.0) (lt-ltb (start v) (stop u) (omega arith)))
        | inr no' ↦
            elim (cases_Bool (leb (start u) (start v) && ltb (start v) (stop u))) [
              | inl in_it ↦
                  let both = and_parts (leb (start u) (start v)) (ltb (start v) (stop u)) in_it in
                  among_ancestor parents tree u v (found_within u v known_u known_v (leb-true (start u) (start v) both.0) (ltb-true (start v) (stop u) both.1)) ∙ sym in_it
              | inr out ↦ no' ∙ sym out
            ]
      ]

-- trees that give the versions below n the same parents have the same paths to them
module _ (parents others : Parents) (tree : IsTree others) (n : ℕ) (same : (v : ℕ) → v < n → parent_of parents v ≡ parent_of others v) where
  climb_same : (k v : ℕ) → v < n → climb k parents v ≡ climb k others v
  unfolding climb
  climb_same zero v known = refl
  climb_same (suc k) v known =
      let up : (o : Option ℕ) → Parents → List ℕ = λ o tree'. v ∷ option_map_or (λ p. climb k tree' p) o [] in
      elim (option_cases (parent_of others v)) [
        | inl none ↦ ap (λ (o : Option ℕ). up o parents) (same v known ∙ none) ∙ sym (ap (λ (o : Option ℕ). up o others) none)
        | inr some ↦
            let older : some.0 < v = parent_older others tree v some.0 some.1 in
            ap (λ (o : Option ℕ). up o parents) (same v known ∙ some.1)
            ∙ ap (λ (x : List ℕ). v ∷ x) (climb_same k some.0 (omega arith))
            ∙ sym (ap (λ (o : Option ℕ). up o others) some.1)
      ]

  pub path_same : (v : ℕ) → v < n → path parents v ≡ path others v
  path_same v known = climb_same v v known

  pub ancestors_same : (u v : ℕ) → v < n → is_ancestor parents u v ≡ is_ancestor others u v
  ancestors_same u v known = ap (λ (x : List ℕ). list_any (λ w. eqb w u) x) (path_same v known)

  -- intervals that were made of one tree order each that has the same parents
  pub intervals_order : (few : n ≤ length others) (starts ends : List ℕ) → length starts ≡ n → length ends ≡ n
      → AreIntervals others n (λ v. get_or starts v 0) (λ v. get_or ends v 0)
      → IsPreorder n parents (record { starts = starts; ends = ends })
  intervals_order few starts ends starts_len ends_len laid =
      record {
        starts_len = starts_len;
        ends_len = ends_len;
        law = λ u v known_u known_v. ancestors_same u v known_v ∙ ancestors_span others tree n few (λ w. get_or starts w 0) (λ w. get_or ends w 0) laid u v known_u known_v;
      }
