-- The versions of each part, found in one pass.
use Rattle.std.proofs.Common.{◌≡◌, ◌+◌, ◌==◌, ◌++◌, ◌∷◌, [], ℕ, Bool, inl, inr, cond, List, map, get_or, set, replicate, sym, ap, ◌∙◌, arith}
use Rattle.std.specs.List.{range_with_len, filter}
use Rattle.std.proofs.lemmas.Bool.{cases_eq, eq-eqb, ne_eqb}
use Rattle.std.proofs.lemmas.List.{append-nil, map-id, length-set, length-replicate, get_or-replicate, get_or-set_same, get_or-set_other}
use Rattle.std.proofs.lemmas.List.FromFn.{fill_by_all, length-map-range_with_len, get_or-map-range_with_len, filter_of_map_range_with_len_more}

-- the versions below a number that are in a part
abbrev pub members_below : List ℕ → ℕ → ℕ → List ℕ
members_below labels v q = filter (λ u. get_or labels u 0 == q) (range_with_len 0 v)

-- so far, of each of n parts
abbrev pub tags_below : List ℕ → ℕ → ℕ → List (List ℕ)
tags_below labels v n = map (members_below labels v) (range_with_len 0 n)

pub no_members : (labels : List ℕ) (n : ℕ) → replicate n [] ≡ tags_below labels 0 n
no_members labels n = fill_by_all (members_below labels 0) (replicate n []) n [] (length-replicate n []) (λ k lt. get_or-replicate n k [] [] lt)

one_member : (labels : List ℕ) (v q : ℕ) → members_below labels (v + 1) q ≡ members_below labels v q ++ cond (get_or labels v 0 == q) (v ∷ []) []
one_member labels v q =
    let p = λ (u : ℕ). get_or labels u 0 == q in
    sym (ap (filter p) (map-id (range_with_len 0 (v + 1)))) ∙ filter_of_map_range_with_len_more p (λ (u : ℕ). u) 0 v v (omega arith)
    ∙ ap (λ (us : List ℕ). filter p us ++ cond (p v) (v ∷ []) []) (map-id (range_with_len 0 v))

pub member_more : (labels : List ℕ) (v n part : ℕ) → part ≡ get_or labels v 0
    → set (tags_below labels v n) part (get_or (tags_below labels v n) part [] ++ v ∷ []) ≡ tags_below labels (v + 1) n
member_more labels v n part is =
    fill_by_all (members_below labels (v + 1)) (set (tags_below labels v n) part more) n [] (length-set (tags_below labels v n) part more ∙ length-map-range_with_len (members_below labels v) 0 n)
    (λ k lt.
    let before : get_or (tags_below labels v n) k [] ≡ members_below labels v k = get_or-map-range_with_len (members_below labels v) 0 n k k [] lt (omega arith) in
    elim (cases_eq k part) [
      | inl same ↦
          ap (λ (j : ℕ). get_or (set (tags_below labels v n) part more) j []) same
          ∙ get_or-set_same (tags_below labels v n) part more [] (omega (arith, same, lt, length-map-range_with_len (members_below labels v) 0 n))
          ∙ ap (λ (l : List ℕ). l ++ v ∷ []) (ap (λ (j : ℕ). get_or (tags_below labels v n) j []) (sym same) ∙ before)
          ∙ ap (λ (b : Bool). members_below labels v k ++ cond b (v ∷ []) []) (sym (eq-eqb (get_or labels v 0) k (sym is ∙ sym same)))
          ∙ sym (one_member labels v k)
      | inr other ↦
          get_or-set_other (tags_below labels v n) part k more [] other ∙ before
          ∙ sym (append-nil (members_below labels v k))
          ∙ ap (λ (b : Bool). members_below labels v k ++ cond b (v ∷ []) []) (sym (ne_eqb (get_or labels v 0) k (λ e. other (sym e ∙ sym is))))
          ∙ sym (one_member labels v k)
    ])
  where
    more : List ℕ
    more = get_or (tags_below labels v n) part [] ++ v ∷ []
