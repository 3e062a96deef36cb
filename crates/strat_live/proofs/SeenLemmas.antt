-- Which versions see an item of a key.
use Rattle.std.proofs.Common.{◌≡◌, ◌<◌, ℕ, Bool, true, false, eqb, ◌&&◌, ◌||◌, not, inl, inr, List, [], ◌∷◌, Option, Some, None, refl, sym, ap, ◌∙◌, arith}
use Rattle.std.specs.List.{list_any}
use Rattle.std.specs.Option.{option_map_or}
use Rattle.std.proofs.lemmas.Bool.{eqb-true, eq-eqb}
use Rattle.strat_base.specs.Tree.{Parents, parent_of, is_ancestor, IsTree}
use Rattle.strat_base.proofs.ResultFacts.{option_cases}
use Rattle.strat_base.proofs.TreeLemmas.{parent_older, path_root, path_up}
use Rattle.strat_tree.proofs.PreorderLemmas.{path_same}
use Rattle.strat_live.specs.Counting.{is_seen_above, is_begun, SameParents}
use Rattle.def_state.specs.Counted.{sees_one}

pub same_truth : (a b : Bool) → (a ≡ true → b ≡ true) → (b ≡ true → a ≡ true) → a ≡ b
same_truth true b there back = sym (there refl)
same_truth false true there back = back refl
same_truth false false there back = refl

module _ (parents : Parents) (tree : IsTree parents) where
  -- a version sees its own items and what its parent sees
  pub seen_up : (v p : ℕ) → parent_of parents v ≡ Some p → (versions : List ℕ) → sees_one parents v versions ≡ list_any (λ u. eqb u v) versions || sees_one parents p versions
  seen_up v p some [] = refl
  seen_up v p some (u ∷ versions) = (λ i. one i || seen_up v p some versions i) ∙ shuffle (eqb u v) (is_ancestor parents u p) (list_any (λ u. eqb u v) versions) (sees_one parents p versions)
    where
      shuffle : (a b c d : Bool) → (a || b) || (c || d) ≡ (a || c) || (b || d)
      shuffle true b c d = refl
      shuffle false true true d = refl
      shuffle false true false d = refl
      shuffle false false c d = refl

      turned : eqb v u ≡ eqb u v
      turned = same_truth (eqb v u) (eqb u v) (λ is. eq-eqb u v (sym (eqb-true v u is))) (λ is. eq-eqb v u (sym (eqb-true u v is)))

      one : is_ancestor parents u v ≡ eqb u v || is_ancestor parents u p
      one = ap (list_any (λ w. eqb w u)) (path_up parents tree v p some) ∙ ap (λ (b : Bool). b || is_ancestor parents u p) turned

  pub seen_root : (v : ℕ) → parent_of parents v ≡ None → (versions : List ℕ) → sees_one parents v versions ≡ list_any (λ u. eqb u v) versions
  seen_root v none [] = refl
  seen_root v none (u ∷ versions) = λ i. one i || seen_root v none versions i
    where
      drop_false : (a b : Bool) → a ≡ b → a || false ≡ b
      drop_false true b e = e
      drop_false false b e = e

      turned : eqb v u ≡ eqb u v
      turned = same_truth (eqb v u) (eqb u v) (λ is. eq-eqb u v (sym (eqb-true v u is))) (λ is. eq-eqb v u (sym (eqb-true u v is)))

      one : is_ancestor parents u v ≡ eqb u v
      one = ap (list_any (λ w. eqb w u)) (path_root parents tree v none) ∙ drop_false (eqb v u) (eqb u v) turned

  -- a version sees what begins there, and what its parent sees
  pub seen_parts : (v : ℕ) (versions : List ℕ) → sees_one parents v versions ≡ list_any (λ u. eqb u v) versions || is_seen_above parents v versions
  seen_parts v versions =
      elim (option_cases (parent_of parents v)) [
        | inl none ↦ seen_root v none versions ∙ drop_false (list_any (λ u. eqb u v) versions) (is_seen_above parents v versions) (ap (λ (o : Option ℕ). option_map_or (λ p. sees_one parents p versions) o false) none)
        | inr some ↦ seen_up v some.0 some.1 versions ∙ ap (λ (b : Bool). list_any (λ u. eqb u v) versions || b) (sym (ap (λ (o : Option ℕ). option_map_or (λ p. sees_one parents p versions) o false) some.1))
      ]
    where
      drop_false : (a b : Bool) → b ≡ false → a ≡ a || b
      drop_false true b e = refl
      drop_false false b e = sym e

  -- a tree that gives the versions below n the same parents gives them the same paths
  module _ (n : ℕ) (others : Parents) (same : SameParents n others parents) where
    pub seen_same : (v : ℕ) → v < n → (versions : List ℕ) → sees_one others v versions ≡ sees_one parents v versions
    seen_same v lt versions = ap (λ (us : List ℕ). list_any (λ u. list_any (λ w. eqb w u) us) versions) (path_same others parents tree n same v lt)

    pub above_same : (v : ℕ) → v < n → (versions : List ℕ) → is_seen_above others v versions ≡ is_seen_above parents v versions
    above_same v lt versions =
        ap (λ (o : Option ℕ). option_map_or (λ p. sees_one others p versions) o false) (same v lt) ∙ elim (option_cases (parent_of parents v)) [
          | inl none ↦ ap (λ (o : Option ℕ). option_map_or (λ p. sees_one others p versions) o false) none ∙ sym (ap (λ (o : Option ℕ). option_map_or (λ p. sees_one parents p versions) o false) none)
          | inr some ↦
              let older : some.0 < v = parent_older parents tree v some.0 some.1 in
              ap (λ (o : Option ℕ). option_map_or (λ p. sees_one others p versions) o false) some.1 ∙ seen_same some.0 (omega arith) versions ∙ sym (ap (λ (o : Option ℕ). option_map_or (λ p. sees_one parents p versions) o false) some.1)
        ]

    pub begun_same : (v : ℕ) → v < n → (versions : List ℕ) → is_begun others v versions ≡ is_begun parents v versions
    begun_same v lt versions = ap (λ (b : Bool). list_any (λ u. eqb u v) versions && not b) (above_same v lt versions)
