-- How the counts of items and of live keys move down a tree.
use Rattle.std.proofs.Common.{◌≡◌, ◌≤◌, ◌+◌, ℕ, Bool, true, false, ltb, eqb, ◌&&◌, ◌||◌, not, inl, inr, List, [], ◌∷◌, Some, None, refl, sym, ap, ◌∙◌, arith}
use Rattle.std.specs.List.{list_any, list_all, count_by}
use Rattle.std.proofs.lemmas.Bool.{and_parts, eq-eqb, ne_eqb, or_parts, cases_eq}
use Rattle.std.proofs.lemmas.List.Sums.{sum_by-cons}
use Rattle.strat_base.specs.Tree.{Parents, parent_of, IsTree}
use Rattle.strat_live.specs.Counting.{is_seen_above, is_begun, begun_count}
use Rattle.strat_base.specs.Order.{descends}
use Rattle.def_state.specs.Counted.{own_at, sees_one, keys_at}
use Rattle.strat_live.proofs.SeenLemmas.{seen_parts}
use Rattle.strat_live.proofs.CountingLemmas.{one_if, none_equal, live_root, live_up}

one_or : (a b : Bool) → one_if a ≤ one_if (a || b)
one_or true b = omega arith
one_or false true = omega arith
one_or false false = omega arith

one_and : (a b : Bool) → one_if (a && b) ≤ one_if a
one_and true true = omega arith
one_and true false = omega arith
one_and false b = omega arith

-- a list has v as often as it says
count_some : (v : ℕ) (us : List ℕ) → one_if (list_any (λ u. eqb u v) us) ≤ count_by (λ u. eqb u v) us
count_some v [] = omega arith
count_some v (u ∷ us) =
    let more : count_by (λ u. eqb u v) (u ∷ us) ≡ one_if (eqb u v) + count_by (λ u. eqb u v) us = sum_by-cons (λ u. one_if (eqb u v)) u us in
    let rest : one_if (list_any (λ u. eqb u v) us) ≤ count_by (λ u. eqb u v) us = count_some v us in
    let both : one_if (eqb u v || list_any (λ u. eqb u v) us) ≤ one_if (eqb u v) + one_if (list_any (λ u. eqb u v) us) = split (eqb u v) (list_any (λ u. eqb u v) us) in
    omega arith
  where
    split : (a b : Bool) → one_if (a || b) ≤ one_if a + one_if b
    split true true = omega arith
    split true false = omega arith
    split false true = omega arith
    split false false = omega arith

count_none : (v : ℕ) (us : List ℕ) → list_any (λ u. eqb u v) us ≡ false → count_by (λ u. eqb u v) us ≡ 0
count_none v [] none = refl
count_none v (u ∷ us) none =
    let more : count_by (λ u. eqb u v) (u ∷ us) ≡ one_if (eqb u v) + count_by (λ u. eqb u v) us = sum_by-cons (λ u. one_if (eqb u v)) u us in
    let parts = or_parts (eqb u v) (list_any (λ u. eqb u v) us) none in
    let rest : count_by (λ u. eqb u v) us ≡ 0 = count_none v us parts.1 in
    let off : one_if (eqb u v) ≡ 0 = ap one_if parts.0 in
    omega arith

-- a descending one has it once at most
count_once : (v : ℕ) (us : List ℕ) → descends us ≡ true → count_by (λ u. eqb u v) us ≤ one_if (list_any (λ u. eqb u v) us)
count_once v [] down = omega arith
count_once v (x ∷ us) down =
    let parts = and_parts (list_all (λ u. ltb u x) us) (descends us) down in
    let more : count_by (λ u. eqb u v) (x ∷ us) ≡ one_if (eqb x v) + count_by (λ u. eqb u v) us = sum_by-cons (λ u. one_if (eqb u v)) x us in
    elim (cases_eq x v) [
      | inl here ↦
          let none : list_any (λ u. eqb u v) us ≡ false = none_equal v us (ap (λ (w : ℕ). list_all (λ u. ltb u w) us) (sym here) ∙ parts.0) in
          let rest : count_by (λ u. eqb u v) us ≡ 0 = count_none v us none in
          let on : one_if (eqb x v) ≡ 1 = ap one_if (eq-eqb x v here) in
          let all : one_if (eqb x v || list_any (λ u. eqb u v) us) ≡ 1 = ap (λ (b : Bool). one_if (b || list_any (λ u. eqb u v) us)) (eq-eqb x v here) in
          omega arith
      | inr apart ↦
          let off : one_if (eqb x v) ≡ 0 = ap one_if (ne_eqb x v apart) in
          let rest : count_by (λ u. eqb u v) us ≤ one_if (list_any (λ u. eqb u v) us) = count_once v us parts.1 in
          let all : one_if (eqb x v || list_any (λ u. eqb u v) us) ≡ one_if (list_any (λ u. eqb u v) us) = ap (λ (b : Bool). one_if (b || list_any (λ u. eqb u v) us)) (ne_eqb x v apart) in
          omega arith
    ]

module _ (parents : Parents) (tree : IsTree parents) where
  begun_le : (groups : List (List ℕ)) (v : ℕ) → begun_count parents groups v ≤ own_at groups v
  begun_le [] v = omega arith
  begun_le (group ∷ groups) v =
      let a : begun_count parents (group ∷ groups) v ≡ one_if (is_begun parents v group) + begun_count parents groups v = sum_by-cons (λ g. one_if (is_begun parents v g)) group groups in
      let b : own_at (group ∷ groups) v ≡ count_by (λ u. eqb u v) group + own_at groups v = sum_by-cons (λ g. count_by (λ u. eqb u v) g) group groups in
      let one : one_if (is_begun parents v group) ≤ one_if (list_any (λ u. eqb u v) group) = one_and (list_any (λ u. eqb u v) group) (not (is_seen_above parents v group)) in
      let some : one_if (list_any (λ u. eqb u v) group) ≤ count_by (λ u. eqb u v) group = count_some v group in
      let rest : begun_count parents groups v ≤ own_at groups v = begun_le groups v in
      omega arith

  -- what is live at a version is live at its child
  pub live_grows : (groups : List (List ℕ)) (v p : ℕ) → parent_of parents v ≡ Some p → keys_at parents groups p ≤ keys_at parents groups v
  live_grows groups v p some = let up = live_up parents tree groups v p some in omega arith

  -- and what is live at a child is live at its parent, or its own
  pub live_grows_by_own : (groups : List (List ℕ)) (v p : ℕ) → parent_of parents v ≡ Some p → keys_at parents groups v ≤ keys_at parents groups p + own_at groups v
  live_grows_by_own groups v p some = let up = live_up parents tree groups v p some in let le = begun_le groups v in omega arith

  -- a root has no more live than its own
  pub root_live : (groups : List (List ℕ)) (v : ℕ) → parent_of parents v ≡ None → keys_at parents groups v ≤ own_at groups v
  root_live groups v none = let is = live_root parents tree groups v none in let le = begun_le groups v in omega arith

  -- what a version has is live at it
  pub own_live : (groups : List (List ℕ)) (v : ℕ) → list_all descends groups ≡ true → own_at groups v ≤ keys_at parents groups v
  own_live [] v down = omega arith
  own_live (group ∷ groups) v down =
      let parts = and_parts (descends group) (list_all descends groups) down in
      let a : own_at (group ∷ groups) v ≡ count_by (λ u. eqb u v) group + own_at groups v = sum_by-cons (λ g. count_by (λ u. eqb u v) g) group groups in
      let b : keys_at parents (group ∷ groups) v ≡ one_if (sees_one parents v group) + keys_at parents groups v = sum_by-cons (λ g. one_if (sees_one parents v g)) group groups in
      let once : count_by (λ u. eqb u v) group ≤ one_if (list_any (λ u. eqb u v) group) = count_once v group parts.0 in
      let seen : one_if (sees_one parents v group) ≡ one_if (list_any (λ u. eqb u v) group || is_seen_above parents v group) = ap one_if (seen_parts parents tree v group) in
      let le : one_if (list_any (λ u. eqb u v) group) ≤ one_if (list_any (λ u. eqb u v) group || is_seen_above parents v group) = one_or (list_any (λ u. eqb u v) group) (is_seen_above parents v group) in
      let rest : own_at groups v ≤ keys_at parents groups v = own_live groups v parts.1 in
      omega arith
