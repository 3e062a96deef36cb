-- Chains of the places that have the same label.
use Rattle.std.proofs.Common.{◌≡◌, ◌<◌, ◌≤◌, ◌+◌, ◌-◌, ℕ, suc, Bool, cond, eqb, inl, inr, List, length, get_or, set, Option, Some, None, sym, ap, ◌∙◌, subst, arith}
use Rattle.std.specs.List.{find, range_with_len}
use Rattle.std.proofs.lemmas.Bool.{eqb-true, eq-eqb, ne_eqb, cases_eq}
use Rattle.std.proofs.lemmas.List.{get_or-set_same, get_or-set_other, length-set}
use Rattle.strat_base.proofs.ListFacts.{find_some, range_among}
use Rattle.std.specs.Option.{IfSome}
use Rattle.strat_split.specs.Chains.{first_labelled, IsLinked}

-- the search from one place on
pub labelled_step : (labels : List ℕ) (label i : ℕ) → i < length labels → first_labelled labels label i ≡ cond (eqb (get_or labels i 0) label) (Some i) (first_labelled labels label (i + 1))
labelled_step labels label i lt =
    let more : length labels - i ≡ suc (length labels - (i + 1)) = omega arith in
    ap (λ (n : ℕ). find (λ k. eqb (get_or labels k 0) label) (range_with_len i n)) more

-- what a search finds has the label
pub labelled_found : (labels : List ℕ) (label i k : ℕ) → first_labelled labels label i ≡ Some k → (i ≤ k) × (k < length labels) × (get_or labels k 0 ≡ label)
labelled_found labels label i k e =
    let found = find_some (λ j. eqb (get_or labels j 0) label) (range_with_len i (length labels - i)) k e in
    let within = range_among i (length labels - i) k found.0 in
    (within.0, omega (arith, within.0, within.1), eqb-true (get_or labels k 0) label found.1)

pub found_as : (labels : List ℕ) (label i : ℕ) (o : Option ℕ) → o ≡ first_labelled labels label i → IfSome o (λ k. (i ≤ k) × (k < length labels) × (get_or labels k 0 ≡ label))
found_as labels label i None is = tt
found_as labels label i (Some k) is = labelled_found labels label i k (sym is)

module _ (labels : List ℕ) (firsts nexts : List (Option ℕ)) (i : ℕ) (linked : IsLinked labels firsts nexts (i + 1)) (lt : i < length labels) where
  -- a place before those that have its label
  pub link_one : get_or labels i 0 < length firsts → IsLinked labels (set firsts (get_or labels i 0) (Some i)) (set nexts i (get_or firsts (get_or labels i 0) None)) i
  link_one there =
      let many : length (set firsts (get_or labels i 0) (Some i)) ≡ length firsts = length-set firsts (get_or labels i 0) (Some i) in
      let as_many : length (set nexts i (get_or firsts (get_or labels i 0) None)) ≡ length nexts = length-set nexts i (get_or firsts (get_or labels i 0) None) in
      record {
        nexts_len = omega (arith, linked.nexts_len);
        first = λ label under. elim (cases_eq label (get_or labels i 0)) [
          | inl here ↦
              ap (λ (p : ℕ). get_or (set firsts (get_or labels i 0) (Some i)) p None) here ∙ get_or-set_same firsts (get_or labels i 0) (Some i) None there
              ∙ sym (labelled_step labels label i lt ∙ ap (λ (b : Bool). cond b (Some i) (first_labelled labels label (i + 1))) (eq-eqb (get_or labels i 0) label (sym here)))
          | inr apart ↦
              get_or-set_other firsts (get_or labels i 0) label (Some i) None apart ∙ linked.first label (omega arith)
              ∙ sym (labelled_step labels label i lt ∙ ap (λ (b : Bool). cond b (Some i) (first_labelled labels label (i + 1))) (ne_eqb (get_or labels i 0) label (λ e. apart (sym e))))
        ];
        next = λ k le under carried. elim (cases_eq k i) [
          | inl here ↦
              let P : ℕ → Type 0 = λ j. get_or (set nexts i (get_or firsts (get_or labels i 0) None)) j None ≡ first_labelled labels (get_or labels j 0) (j + 1) in
              subst P (sym here) (get_or-set_same nexts i (get_or firsts (get_or labels i 0) None) None (omega (arith, linked.nexts_len)) ∙ linked.first (get_or labels i 0) there)
          | inr apart ↦ get_or-set_other nexts i k (get_or firsts (get_or labels i 0) None) None apart ∙ linked.next k (omega (arith, apart)) under (omega arith)
        ];
      }

  -- a place without a chain
  pub link_none : length firsts ≤ get_or labels i 0 → IsLinked labels firsts nexts i
  link_none past = record {
    nexts_len = linked.nexts_len;
    first = λ label under. linked.first label under ∙ sym (labelled_step labels label i lt ∙ ap (λ (b : Bool). cond b (Some i) (first_labelled labels label (i + 1))) (ne_eqb (get_or labels i 0) label (λ e. omega (arith, e))));
    next = λ k le under carried. elim (cases_eq k i) [
      | inl here ↦ absurd (let same : get_or labels k 0 ≡ get_or labels i 0 = ap (λ (j : ℕ). get_or labels j 0) here in omega arith)
      | inr apart ↦ linked.next k (omega (arith, apart)) under carried
    ];
  }

-- the same, where the label is known by another name
pub link_placed : (labels : List ℕ) (firsts nexts : List (Option ℕ)) (i label : ℕ) → get_or labels i 0 ≡ label → IsLinked labels firsts nexts (i + 1) → i < length labels → label < length firsts → IsLinked labels (set firsts label (Some i)) (set nexts i (get_or firsts label None)) i
link_placed labels firsts nexts i label is linked lt there =
    let P : ℕ → Type 0 = λ l. l < length firsts → IsLinked labels (set firsts l (Some i)) (set nexts i (get_or firsts l None)) i in
    subst P is (link_one labels firsts nexts i linked lt) there

pub link_passed : (labels : List ℕ) (firsts nexts : List (Option ℕ)) (i label : ℕ) → get_or labels i 0 ≡ label → IsLinked labels firsts nexts (i + 1) → i < length labels → length firsts ≤ label → IsLinked labels firsts nexts i
link_passed labels firsts nexts i label is linked lt past = link_none labels firsts nexts i linked lt (omega arith)
