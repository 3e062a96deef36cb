-- Below a version that was dropped all are, as versions are made and dropped.
use Rattle.std.proofs.Common.{◌≡◌, ◌≢◌, ◌<◌, ◌≤◌, ℕ, zero, suc, Bool, true, false, eqb, not, ◌&&◌, set, get_or, inl, inr, [], ◌∷◌, ◌++◌, length, Option, Some, None, refl, sym, ap, ◌∙◌, arith, true≢false}
use Rattle.std.specs.List.{range_with_len}
use Rattle.std.specs.Option.{option_map_or, option_and_then}
use Rattle.std.proofs.lemmas.Bool.{cases_eq, cases_lt, cases_Bool, eq-eqb}
use Rattle.std.proofs.lemmas.List.{length_push, length-set, get_or-set_same, get_or-set_other, get_or_push}
use Rattle.std.proofs.lemmas.Option.{slice_get-get_or, slice_get_past}
use Rattle.strat_base.specs.Tree.{Parents, parent_of, with_child, IsTree}
use Rattle.strat_base.specs.Marks.{Marks, is_dropped, has_living_child, ArePruned}
use Rattle.strat_base.proofs.ListFacts.{none_at, among_range}
use Rattle.strat_base.proofs.TreeLemmas.{parent_kept}

-- a version more, which lives, changes no mark
pub mark_kept : (marks : Marks) (v : ℕ) → is_dropped (marks ++ false ∷ []) v ≡ is_dropped marks v
mark_kept [] zero = refl
mark_kept [] (suc v) = refl
mark_kept (mark ∷ marks) zero = refl
mark_kept (mark ∷ marks) (suc v) = mark_kept marks v

-- in a new tree no version was dropped
pub none_dropped : (v : ℕ) → is_dropped (false ∷ []) v ≡ false
none_dropped zero = refl
none_dropped (suc v) = refl

-- version 0 alone
pub pruned_root : ArePruned (None ∷ []) (false ∷ [])
pruned_root = record { len = refl; root = refl; down = λ v p above dead. absurd (true≢false (sym dead ∙ none_dropped p)) }

-- the parent of a version that is not there
parent_past : (parents : Parents) (v : ℕ) → length parents ≤ v → parent_of parents v ≡ None
parent_past parents v past = ap (λ (o : Option (Option ℕ)). option_and_then (λ parent. parent) o) (slice_get_past parents v past)

-- a version with a parent is there
pub parent_there : (parents : Parents) (v p : ℕ) → parent_of parents v ≡ Some p → v < length parents
parent_there parents v p above =
    elim (cases_lt v (length parents)) [
      | inl lt ↦ lt
      | inr past ↦ let none : None ≡ Some p = sym (parent_past parents v past) ∙ above in absurd (cc)
    ]

module _ (parents : Parents) (tree : IsTree parents) (marks : Marks) (pruned : ArePruned parents marks) where
  -- a version more, below one that lives
  pub pruned_grown : (p : ℕ) → p < length parents → is_dropped marks p ≡ false → ArePruned (with_child parents p) (marks ++ false ∷ [])
  pruned_grown p known lives = record {
    len = let same = pruned.len in omega (arith, same, length_push parents (Some p), length_push marks false);
    root = mark_kept marks 0 ∙ pruned.root;
    down = λ v u above dead.
        let was : is_dropped marks u ≡ true = sym (mark_kept marks u) ∙ dead in
        elim (cases_lt v (length parents)) [
          | inl old ↦ mark_kept marks v ∙ pruned.down v u (sym (parent_kept parents tree p known v old) ∙ above) was
          | inr past ↦
              let within = parent_there (with_child parents p) v u above in
              let last : v ≡ length parents = omega (arith, past, within, length_push parents (Some p)) in
              let made : parent_of (with_child parents p) v ≡ Some p =
              ap (λ (o : Option (Option ℕ)). option_and_then (λ parent. parent) o)
              (slice_get-get_or (with_child parents p) v None within ∙ ap (λ (o : Option ℕ). Some o) (get_or_push parents (Some p) None v (sym last))) in
              let both : Some p ≡ Some u = sym made ∙ above in
              let same : p ≡ u = cc in
              absurd (true≢false (sym was ∙ ap (is_dropped marks) (sym same) ∙ lives))
        ];
  }

  -- a child of a version without a living child was dropped
  child_dead : (v w : ℕ) → has_living_child parents marks v ≡ false → parent_of parents w ≡ Some v → is_dropped marks w ≡ true
  child_dead v w none above =
      let test : ℕ → Bool = λ c. option_map_or (λ p. eqb p v) (parent_of parents c) false && not (is_dropped marks c) in
      let within = parent_there parents w v above in
      let fails : test w ≡ false = none_at test w (range_with_len 0 (length parents)) none (among_range 0 (length parents) w (omega arith) (omega (arith, within))) in
      let parted : not (is_dropped marks w) ≡ false =
      sym (ap (λ (o : Option ℕ). option_map_or (λ p. eqb p v) o false && not (is_dropped marks w)) above ∙ ap (λ b. b && not (is_dropped marks w)) (eq-eqb v v refl)) ∙ fails in
      elim (cases_Bool (is_dropped marks w)) [
        | inl dead ↦ dead
        | inr lives ↦ absurd (true≢false (sym (ap not lives) ∙ parted))
      ]

  -- a version is dropped that has no living child
  pub pruned_dropped : (v : ℕ) → 1 ≤ v → v < length parents → has_living_child parents marks v ≡ false → ArePruned parents (set marks v true)
  pruned_dropped v some known none =
      let len : length (set marks v true) ≡ length parents = length-set marks v true ∙ pruned.len in
      let root : 0 ≢ v = λ same. omega (arith, some, same) in
      record {
        len = len;
        root = get_or-set_other marks v 0 true false root ∙ pruned.root;
        down = λ w p above dead.
            elim (cases_eq w v) [
              | inl here ↦ ap (λ (x : ℕ). get_or (set marks v true) x false) here ∙ get_or-set_same marks v true false (omega (arith, known, pruned.len))
              | inr apart ↦
                  get_or-set_other marks v w true false apart
                  ∙ elim (cases_eq p v) [
                    | inl same ↦ child_dead v w none (above ∙ ap Some same)
                    | inr other ↦ pruned.down w p above (sym (get_or-set_other marks v p true false other) ∙ dead)
                  ]
            ];
      }
