-- Which parts have work.
use Rattle.std.proofs.Common.{◌≡◌, ◌<◌, ◌≤◌, ◌+◌, ℕ, zero, suc, Bool, true, false, cond, eqb, ltb, ◌||◌, inl, inr, List, [], ◌∷◌, ◌++◌, length, get_or, set, Option, Some, None, refl, sym, ap, ◌∙◌, subst, arith, true≢false}
use Rattle.std.specs.List.{find, position}
use Rattle.std.specs.Option.{option_map_or, is_some}
use Rattle.std.proofs.lemmas.Bool.{lt-ltb, le-ltb, eqb-true, eq-eqb, ne_eqb, or_right, cases_eq, cases_lt, cases_order}
use Rattle.std.proofs.lemmas.List.{get_or-set_same, get_or-set_other, get_or_past}
use Rattle.std.proofs.lemmas.List.Quantifiers.{position-Some}
use Rattle.strat_base.specs.Tree.{Parents, IsTree}
use Rattle.strat_arena.specs.declared.items.Item.{Item}
use Rattle.strat_live.specs.Counting.{are_below}
use Rattle.strat_live.specs.Group.{is_live_item}
use Rattle.strat_split.specs.Shares.{AreFirst, is_led_before}
use Rattle.strat_split.specs.Waiting.{has_work, IsListed}
use Rattle.strat_split.proofs.ChainLemmas.{labelled_found}
use Rattle.strat_split.proofs.PassedLemmas.{find_nothing}
use Rattle.strat_split.proofs.ShareLemmas.{among_at, no_item}
use Rattle.strat_split.proofs.TakenLemmas.{none_live, live_past}
use Rattle.strat_split.proofs.WaitingLemmas.{listed_front, listed_room, last_passes}

-- a part with work is one of those that have places
pub work_within : (heads : List (Option ℕ)) (gifts : List (Option Item)) → length gifts ≡ length heads → (q : ℕ) → has_work heads gifts q ≡ true → q < length heads
work_within heads gifts len q work = elim (cases_lt q (length heads)) [
  | inl lt ↦ lt
  | inr past ↦
      let first : get_or heads q None ≡ None = get_or_past heads q None past in
      let second : get_or gifts q None ≡ None = get_or_past gifts q None (omega arith) in
      absurd (true≢false (sym work ∙ (λ i. is_some (first i) || is_some (second i))))
]

-- the share of the last part that waits is taken
pub share_taken : (heads : List (Option ℕ)) (gifts : List (Option Item)) (waiting front : List ℕ) (q : ℕ) → length gifts ≡ length heads → IsListed (has_work heads gifts) waiting → waiting ≡ front ++ q ∷ []
    → IsListed (has_work (set heads q None) (set gifts q None)) front
share_taken heads gifts waiting front q len listed is =
    let ended : IsListed (has_work heads gifts) (front ++ q ∷ []) = subst (IsListed (has_work heads gifts)) is listed in
    let lt : q < length heads = work_within heads gifts len q (last_passes (has_work heads gifts) front q ended) in
    let head : get_or (set heads q None) q None ≡ None = get_or-set_same heads q None None lt in
    let gift : get_or (set gifts q None) q None ≡ None = get_or-set_same gifts q None None (omega arith) in
    listed_front (has_work heads gifts) front q ended (has_work (set heads q None) (set gifts q None)) (λ i. is_some (head i) || is_some (gift i))
    (λ r apart. let first = get_or-set_other heads q r None None apart in let second = get_or-set_other gifts q r None None apart in (λ i. is_some (first i) || is_some (second i)))

pub last_within : (heads : List (Option ℕ)) (gifts : List (Option Item)) (waiting front : List ℕ) (q : ℕ) → length gifts ≡ length heads → IsListed (has_work heads gifts) waiting → waiting ≡ front ++ q ∷ [] → q < length heads
last_within heads gifts waiting front q len listed is = work_within heads gifts len q (last_passes (has_work heads gifts) front q (subst (IsListed (has_work heads gifts)) is listed))

pub none_from : {X : Type 0} (o : Option X) → is_some o ≡ false → o ≡ None
none_from None e = refl
none_from (Some x) e = absurd (true≢false e)

-- nothing is listed twice, so that there is room for one more
pub work_room : (heads : List (Option ℕ)) (gifts : List (Option Item)) (waiting : List ℕ) (q : ℕ) → length gifts ≡ length heads → IsListed (has_work heads gifts) waiting → get_or heads q None ≡ None → get_or gifts q None ≡ None → q < length heads → length waiting < length heads
work_room heads gifts waiting q len listed head gift lt =
    listed_room (has_work heads gifts) q (λ i. is_some (head i) || is_some (gift i)) waiting listed (length heads) lt (work_within heads gifts len)

module _ (labels : List ℕ) (heads : List (Option ℕ)) (are : AreFirst labels heads) where
  -- the first lead of a part has its label
  head_label : (r k : ℕ) → get_or heads r None ≡ Some k → (r < length heads) × (k < length labels) × (get_or labels k 0 ≡ r)
  head_label r k is = elim (cases_lt r (length heads)) [
    | inl lt ↦ let found = labelled_found labels r 0 k (sym (are r lt) ∙ is) in (lt, found.1, found.2)
    | inr past ↦ let none : get_or heads r None ≡ None = get_or_past heads r None past in absurd (cc)
  ]

  pub first_within : (r k : ℕ) → get_or heads r None ≡ Some k → r < length heads
  first_within r k is = (head_label r k is).0

  pub led_within : (i r : ℕ) → is_led_before heads i r ≡ true → r < length heads
  led_within i r led = elim (cases_lt r (length heads)) [
    | inl lt ↦ lt
    | inr past ↦ absurd (true≢false (sym led ∙ ap (λ (o : Option ℕ). option_map_or (λ k. ltb k i) o false) (get_or_past heads r None past)))
  ]

  -- the part of item i is led before i + 1, and was before i unless item i is its first lead
  led_step : (i r : ℕ) (o : Option ℕ) → get_or heads r None ≡ o → (o ≡ Some i → ⊥) → option_map_or (λ k. ltb k i) o false ≡ option_map_or (λ k. ltb k (i + 1)) o false
  led_step i r None is never = refl
  led_step i r (Some k) is never = elim (cases_order k i) [
    | inl same ↦ absurd (never (ap (λ (j : ℕ). Some j) same))
    | inr (inl less) ↦ lt-ltb k i less ∙ sym (lt-ltb k (i + 1) (omega arith))
    | inr (inr more) ↦ le-ltb k i (omega arith) ∙ sym (le-ltb k (i + 1) (omega arith))
  ]

  pub led_passed : (i q : ℕ) → get_or labels i 0 ≡ q → (get_or heads q None ≡ Some i → ⊥) → (r : ℕ) → is_led_before heads i r ≡ is_led_before heads (i + 1) r
  led_passed i q label never r = led_step i r (get_or heads r None) refl (λ is. let here : q ≡ r = sym label ∙ (head_label r i is).2 in never (ap (λ (s : ℕ). get_or heads s None) here ∙ is))

  pub led_begun : (i q : ℕ) → get_or labels i 0 ≡ q → get_or heads q None ≡ Some i → (r : ℕ) → (is_led_before heads i r || eqb r q) ≡ is_led_before heads (i + 1) r
  led_begun i q label is r = elim (cases_eq r q) [
    | inl same ↦ or_right (is_led_before heads i r) (eqb r q) (eq-eqb r q same) ∙ sym (ap (λ (s : ℕ). is_led_before heads (i + 1) s) same ∙ ap (λ (o : Option ℕ). option_map_or (λ k. ltb k (i + 1)) o false) is ∙ lt-ltb i (i + 1) (omega arith))
    | inr apart ↦ or_none (is_led_before heads i r) (eqb r q) (ne_eqb r q apart) ∙ led_step i r (get_or heads r None) refl (λ now. apart (sym (head_label r i now).2 ∙ label))
  ]
    where
      or_none : (a b : Bool) → b ≡ false → (a || b) ≡ a
      or_none true b e = refl
      or_none false b e = e

  pub led_off : (i q : ℕ) → get_or heads q None ≡ Some i → is_led_before heads i q ≡ false
  led_off i q is = ap (λ (o : Option ℕ). option_map_or (λ k. ltb k i) o false) is ∙ le-ltb i i (omega arith)

  -- before the end all parts with a lead are led
  pub led_all : (n : ℕ) → length labels ≤ n → (q : ℕ) → is_led_before heads n q ≡ is_some (get_or heads q None)
  led_all n end q = go (get_or heads q None) refl
    where
      go : (o : Option ℕ) → get_or heads q None ≡ o → option_map_or (λ k. ltb k n) o false ≡ is_some o
      go None is = refl
      go (Some k) is = lt-ltb k n (omega (arith, (head_label q k is).1))

-- what a test of the first lead says
pub first_found : (o : Option ℕ) (i : ℕ) → option_map_or (λ k. eqb k i) o false ≡ true → o ≡ Some i
first_found None i e = absurd (true≢false (sym e))
first_found (Some k) i e = ap (λ (j : ℕ). Some j) (eqb-true k i e)

pub not_first : (o : Option ℕ) (i : ℕ) → option_map_or (λ k. eqb k i) o false ≡ false → o ≡ Some i → ⊥
not_first o i off is = true≢false (sym (eq-eqb i i refl) ∙ sym (ap (λ (p : Option ℕ). option_map_or (λ k. eqb k i) p false) is) ∙ off)

-- a search for the place of an item finds the item
pub find_at : (p : Item → Bool) (items : List Item) (i : ℕ) (d : Item) → position p items ≡ Some i → find p items ≡ Some (get_or items i d)
find_at p items i d is = let facts = position-Some p items i d is in go items i facts.0 facts.1 facts.2
  where
    go : (xs : List Item) (k : ℕ) → k < length xs → p (get_or xs k d) ≡ true → ((j : ℕ) → j < k → p (get_or xs j d) ≡ false) → find p xs ≡ Some (get_or xs k d)
    go [] k lt passes before = absurd (omega arith)
    go (x ∷ xs) zero lt passes before = ap (λ (b : Bool). cond b (Some x) (find p xs)) passes
    go (x ∷ xs) (suc k) lt passes before = ap (λ (b : Bool). cond b (Some x) (find p xs)) (before 0 (omega arith)) ∙ go xs k (omega arith) passes (λ j less. before (suc j) (omega arith))

pub find_nowhere : (p : Item → Bool) (items : List Item) → position p items ≡ None → find p items ≡ None
find_nowhere p items none = find_nothing p items (λ x among passes.
    let at = among_at items x no_item among in
    true≢false (sym passes ∙ sym (ap p at.2) ∙ sym (none_live p items at.0 no_item at.1 none)))

-- at a version that the tree has not nothing is live
pub find_past : (parents : Parents) → IsTree parents → (items : List Item) (v : ℕ) → are_below (length parents) items ≡ true → length parents ≤ v → find (is_live_item parents items v) items ≡ None
find_past parents tree items v below past = find_nothing (is_live_item parents items v) items (λ x among lives.
    let at = among_at items x no_item among in
    true≢false (sym lives ∙ sym (ap (is_live_item parents items v) at.2) ∙ sym (live_past parents tree items v at.0 no_item below at.1 past)))
