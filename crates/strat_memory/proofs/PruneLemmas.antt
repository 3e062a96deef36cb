-- Versions of a manifest that were dropped are dropped in a tree, the youngest first.
use Rattle.std.proofs.Common.{◌≡◌, ◌≢◌, ◌<◌, ◌≤◌, ◌+◌, ℕ, zero, suc, Bool, true, false, eqb, not, ◌&&◌, set, get_or, inl, inr, List, [], ◌∷◌, ◌++◌, length, map, Option, None, Some, refl, sym, ap, ◌∙◌, subst, arith, true≢false}
use Rattle.std.specs.List.{range_with_len}
use Rattle.std.specs.Option.{option_map_or}
use Rattle.std.proofs.lemmas.Bool.{and_parts, cases_eq, cases_lt, eqb-true, not-true, false_from_ne_true}
use Rattle.std.proofs.lemmas.List.{ext_get_or, get_or-set_same, get_or-set_other, length-set}
use Rattle.strat_base.specs.Marks.{Marks, is_dropped, has_living_child, are_pruned, ArePruned}
use Rattle.strat_base.specs.Tree.{Parents, parent_of, IsTree}
use Rattle.strat_manifest.specs.ManifestView.{marks_listed}
use Rattle.strat_base.proofs.ListFacts.{any_among, range_among}
use Rattle.strat_base.proofs.TreeLemmas.{parent_older}
use Rattle.def_state.proofs.MarkLemmas.{pruned_from_test}

-- in a tree the versions from v on have these marks, and those before it none
pub record IsPrunedFrom (marks now : Marks) (v : ℕ) : Type 0 where
  pub len : length now ≡ length marks
  pub low : (w : ℕ) → w < v → is_dropped now w ≡ false
  pub high : (w : ℕ) → v ≤ w → is_dropped now w ≡ is_dropped marks w

-- past the end no version has a mark
past_marks : (marks : Marks) (v : ℕ) → length marks ≤ v → is_dropped marks v ≡ false
past_marks [] v past = refl
past_marks (m ∷ marks) zero past = absurd (omega (arith, past))
past_marks (m ∷ marks) (suc v) past = past_marks marks v (omega (arith, past))

-- at first none has
pub pruned_first : (marks now : Marks) (v : ℕ) → length now ≡ length marks → ((w : ℕ) → is_dropped now w ≡ false) → v ≡ length marks → IsPrunedFrom marks now v
pruned_first marks now v len none last = record {
  len = len;
  low = λ w lt. none w;
  high = λ w le. none w ∙ sym (past_marks marks w (omega (arith, le, last)));
}

-- at last all have theirs
pub pruned_last : (marks now : Marks) (v : ℕ) → is_dropped marks 0 ≡ false → v ≤ 1 → IsPrunedFrom marks now v → now ≡ marks
pruned_last marks now v root past so = ext_get_or false now marks so.len (λ w lt. at w)
  where
    at : (w : ℕ) → get_or now w false ≡ get_or marks w false
    at w = elim (cases_lt w v) [
      | inl below ↦ so.low w below ∙ sym (ap (is_dropped marks) (let zero' : w ≡ 0 = omega (arith, below, past) in zero') ∙ root)
      | inr above ↦ so.high w above
    ]

-- a version that lives stays so
pub pruned_kept : (marks now : Marks) (v : ℕ) → IsPrunedFrom marks now (suc v) → is_dropped marks v ≡ false → IsPrunedFrom marks now v
pruned_kept marks now v so lives = record {
  len = so.len;
  low = λ w lt. so.low w (omega (arith, lt));
  high = λ w le. elim (cases_eq w v) [
    | inl same ↦ ap (is_dropped now) same ∙ so.low v (omega arith) ∙ sym (ap (is_dropped marks) same ∙ lives)
    | inr apart ↦ so.high w (omega (arith, le, apart))
  ];
}

-- one that was dropped is dropped
pub pruned_more : (marks now : Marks) (v : ℕ) → v < length marks → IsPrunedFrom marks now (suc v) → is_dropped marks v ≡ true → IsPrunedFrom marks (set now v true) v
pruned_more marks now v lt so dropped = record {
  len = length-set now v true ∙ so.len;
  low = λ w below. get_or-set_other now v w true false (λ same. omega (arith, below, same)) ∙ so.low w (omega (arith, below));
  high = λ w le. elim (cases_eq w v) [
    | inl same ↦
        ap (λ (u : ℕ). get_or (set now v true) u false) same ∙ get_or-set_same now v true false (omega (arith, lt, so.len)) ∙ sym (ap (is_dropped marks) same ∙ dropped)
    | inr apart ↦ get_or-set_other now v w true false apart ∙ so.high w (omega (arith, le, apart))
  ];
}

-- and has no living child then
pub pruned_childless : (parents : Parents) (marks now : Marks) (v : ℕ) → IsTree parents → ArePruned parents marks → IsPrunedFrom marks now (suc v) → is_dropped marks v ≡ true → has_living_child parents now v ≡ false
pruned_childless parents marks now v tree pruned so dropped =
    false_from_ne_true (has_living_child parents now v) (λ some.
    let found = any_among is_child (range_with_len 0 (length parents)) some in
    let parts = and_parts (option_map_or (λ p. eqb p v) (parent_of parents found.0) false) (not (is_dropped now found.0)) found.2 in
    living found.0 (parent_of parents found.0) refl parts.0 (not-true (is_dropped now found.0) parts.1))
  where
    is_child : ℕ → Bool
    is_child c = option_map_or (λ p. eqb p v) (parent_of parents c) false && not (is_dropped now c)

    living : (c : ℕ) (o : Option ℕ) → parent_of parents c ≡ o → option_map_or (λ p. eqb p v) o false ≡ true → is_dropped now c ≡ false → ⊥
    living c None is e lives = true≢false (sym e)
    living c (Some p) is e lives =
        let same : p ≡ v = eqb-true p v e in
        let older = parent_older parents tree c p is in
        true≢false (sym (so.high c (omega (arith, older, same)) ∙ pruned.down c v (is ∙ ap Some same) dropped) ∙ lives)

-- the marks of a manifest, as they are tested
pub pruned_listed : (parents : Parents) (marks : Marks) → are_pruned parents marks ≡ true → ArePruned parents marks
pruned_listed = pruned_from_test

-- the mark that a number stands for
pub listed_at : (marks : List ℕ) (v d : ℕ) → v < length marks → is_dropped (marks_listed marks) v ≡ eqb (get_or marks v d) 1
listed_at [] v d lt = absurd (omega (arith, lt))
listed_at (m ∷ marks) zero d lt = refl
listed_at (m ∷ marks) (suc v) d lt = listed_at marks v d (omega (arith, lt))
