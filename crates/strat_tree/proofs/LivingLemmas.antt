-- The numbers of living children, as versions are made and dropped.
use Rattle.std.proofs.Common.{◌≡◌, ◌<◌, ◌≤◌, ◌+◌, ℕ, zero, suc, Bool, true, false, cond, eqb, not, ◌&&◌, ◌||◌, set, get_or, inl, inr, List, [], ◌∷◌, ◌++◌, length, Option, Some, None, refl, sym, ap, ◌∙◌, arith}
use Rattle.std.specs.List.{list_any, count_by, range_with_len}
use Rattle.std.specs.Option.{option_map_or, option_and_then}
use Rattle.std.proofs.lemmas.Bool.{cases_eq, cases_lt, eq-eqb, ne_eqb}
use Rattle.std.proofs.lemmas.List.{length_push, length-set, get_or_append_left, get_or-set_same, get_or-set_other, get_or_push, get_or_past}
use Rattle.std.proofs.lemmas.List.Sums.{sum_by-cons, sum_by-append}
use Rattle.std.proofs.lemmas.Option.{slice_get-get_or}
use Rattle.strat_base.specs.Tree.{Parents, parent_of, with_child, IsTree}
use Rattle.strat_base.specs.Marks.{Marks, is_dropped, has_living_child}
use Rattle.strat_base.proofs.ListFacts.{Among, range_among}
use Rattle.strat_base.proofs.TreeLemmas.{parent_kept, parent_older}
use Rattle.strat_tree.specs.Living.{is_living_child, living_children, AreLivingCounts}
use Rattle.strat_base.proofs.PrunedLemmas.{mark_kept}

-- a count of a list by its first element
count_cons : (p : ℕ → Bool) (x : ℕ) (xs : List ℕ) → count_by p (x ∷ xs) ≡ cond (p x) 1 0 + count_by p xs
count_cons p x xs = sum_by-cons (λ (y : ℕ). cond (p y) 1 0) x xs

-- tests that agree count alike
count_same : (p q : ℕ → Bool) (xs : List ℕ) → ((x : ℕ) → Among x xs → p x ≡ q x) → count_by p xs ≡ count_by q xs
count_same p q [] each = refl
count_same p q (x ∷ xs) each =
    let here = ap {B = ℕ} (λ (b : Bool). cond b 1 0) (each x (inl refl)) in
    let rest = count_same p q xs (λ y among. each y (inr among)) in
    omega (arith, here, rest, count_cons p x xs, count_cons q x xs)

-- what nothing passes counts nothing
count_none : (p : ℕ → Bool) (xs : List ℕ) → ((x : ℕ) → Among x xs → p x ≡ false) → count_by p xs ≡ 0
count_none p [] each = refl
count_none p (x ∷ xs) each =
    let here = ap {B = ℕ} (λ (b : Bool). cond b 1 0) (each x (inl refl)) in
    let rest = count_none p xs (λ y among. each y (inr among)) in
    omega (arith, here, rest, count_cons p x xs)

-- something passes where the count isn't 0
any_count : (p : ℕ → Bool) (xs : List ℕ) → list_any p xs ≡ not (eqb (count_by p xs) 0)
any_count p [] = refl
any_count p (x ∷ xs) =
    let whole = count_cons p x xs in
    elim (p x) as (λ b. p x ≡ b → (b || list_any p xs) ≡ not (eqb (count_by p (x ∷ xs)) 0)) [
      | true ↦ λ is.
          let term = ap {B = ℕ} (λ (b : Bool). cond b 1 0) is in
          let some : eqb (count_by p (x ∷ xs)) 0 ≡ false = ne_eqb (count_by p (x ∷ xs)) 0 (λ none. omega (arith, whole, term, none)) in
          sym (ap not some)
      | false ↦ λ is.
          let term = ap {B = ℕ} (λ (b : Bool). cond b 1 0) is in
          let same : count_by p (x ∷ xs) ≡ count_by p xs = omega (arith, whole, term) in
          any_count p xs ∙ sym (ap (λ (n : ℕ). not (eqb n 0)) same)
    ] refl

-- a test that fails at one more place counts one less
count_less : (p q : ℕ → Bool) (w a n : ℕ) → a ≤ w → w < a + n → ((x : ℕ) → (x ≡ w → ⊥) → q x ≡ p x) → q w ≡ false
    → count_by q (range_with_len a n) + cond (p w) 1 0 ≡ count_by p (range_with_len a n)
count_less p q w a zero low high same off = absurd (omega (arith, low, high))
count_less p q w a (suc n) low high same off =
    let left = count_cons q a (range_with_len (a + 1) n) in
    let right = count_cons p a (range_with_len (a + 1) n) in
    elim (cases_eq a w) [
      | inl here ↦
          let gone = ap {B = ℕ} (λ (b : Bool). cond b 1 0) (ap q here ∙ off) in
          let mine = ap {B = ℕ} (λ (x : ℕ). cond (p x) 1 0) here in
          let rest = count_same q p (range_with_len (a + 1) n) (λ x among. same x (λ is. let at = (range_among (a + 1) n x among).0 in omega (arith, at, here, is))) in
          omega (arith, left, right, gone, mine, rest)
      | inr apart ↦
          let equal = ap {B = ℕ} (λ (b : Bool). cond b 1 0) (same a apart) in
          let rest = count_less p q w (a + 1) n (omega (arith, low, apart)) (omega (arith, high)) same off in
          omega (arith, left, right, equal, rest)
    ]

-- no more numbers pass than there are
count_few : (p : ℕ → Bool) (a n : ℕ) → count_by p (range_with_len a n) ≤ n
count_few p a zero = omega arith
count_few p a (suc n) =
    let rest = count_few p (a + 1) n in
    let whole = count_cons p a (range_with_len (a + 1) n) in
    elim (p a) as (λ b. p a ≡ b → count_by p (range_with_len a (suc n)) ≤ suc n) [
      | true ↦ λ is. let term = ap {B = ℕ} (λ (b : Bool). cond b 1 0) is in omega (arith, rest, whole, term)
      | false ↦ λ is. let term = ap {B = ℕ} (λ (b : Bool). cond b 1 0) is in omega (arith, rest, whole, term)
    ] refl

-- a range that is one longer
range_last : (a n : ℕ) → range_with_len a (suc n) ≡ range_with_len a n ++ (a + n) ∷ []
range_last a zero = let same : a ≡ a + 0 = omega arith in ap (λ (x : ℕ). x ∷ []) same
range_last a (suc n) =
    let at : (a + 1) + n ≡ a + suc n = omega arith in
    ap (λ (xs : List ℕ). a ∷ xs) (range_last (a + 1) n ∙ ap (λ (x : ℕ). range_with_len (a + 1) n ++ x ∷ []) at)

-- a test and what always passes
and_yes : (b : Bool) → (b && true) ≡ b
and_yes true = refl
and_yes false = refl

-- a test and what never passes
and_no : (b : Bool) → (b && false) ≡ false
and_no true = refl
and_no false = refl

-- a version has a living child where the number of these isn't 0
pub living_is : (parents : Parents) (marks : Marks) (v : ℕ) → has_living_child parents marks v ≡ not (eqb (living_children parents marks v) 0)
living_is parents marks v = any_count (is_living_child parents marks v) (range_with_len 0 (length parents))

-- there are no more living children than versions
pub living_few : (parents : Parents) (marks : Marks) (v : ℕ) → living_children parents marks v ≤ length parents
living_few parents marks v = count_few (is_living_child parents marks v) 0 (length parents)

-- version 0 alone
pub counted_root : AreLivingCounts (None ∷ []) (false ∷ []) (0 ∷ [])
counted_root = record { len = refl; each = λ v within. let root : v ≡ 0 = omega (arith, within) in rw root refl }

-- a version that was not made yet has no living child
childless : (parents : Parents) → IsTree parents → (marks : Marks) (v : ℕ) → length parents ≤ v → living_children parents marks v ≡ 0
childless parents tree marks v past =
    count_none (is_living_child parents marks v) (range_with_len 0 (length parents)) (λ c among. go c (parent_of parents c) refl (range_among 0 (length parents) c among).1)
  where
    go : (c : ℕ) (o : Option ℕ) → parent_of parents c ≡ o → c < 0 + length parents → is_living_child parents marks v c ≡ false
    go c None is lt = ap (λ (o : Option ℕ). option_map_or (λ u. eqb u v) o false && not (is_dropped marks c)) is
    go c (Some u) is lt =
        let older = parent_older parents tree c u is in
        ap (λ (o : Option ℕ). option_map_or (λ x. eqb x v) o false && not (is_dropped marks c)) is
        ∙ ap (λ (b : Bool). b && not (is_dropped marks c)) (ne_eqb u v (λ same. omega (arith, older, lt, past, same)))

module _ (parents : Parents) (tree : IsTree parents) (marks : Marks) (p : ℕ) (known : p < length parents) (len : length marks ≡ length parents) where
  -- one more child of p
  living_grown : (v : ℕ) → living_children (with_child parents p) (marks ++ false ∷ []) v ≡ living_children parents marks v + cond (eqb p v) 1 0
  living_grown v =
      let n : ℕ = length parents in
      let q : ℕ → Bool = is_living_child (with_child parents p) (marks ++ false ∷ []) v in
      let zero_plus : 0 + n ≡ n = omega arith in
      let pushed = length_push parents (Some p) in
      let longer : length (with_child parents p) ≡ suc n = omega (arith, pushed) in
      let parent : parent_of (with_child parents p) n ≡ Some p =
      ap (λ (o : Option (Option ℕ)). option_and_then (λ parent. parent) o)
      (slice_get-get_or (with_child parents p) n None (omega (arith, longer)) ∙ ap (λ (o : Option ℕ). Some o) (get_or_push parents (Some p) None n refl)) in
      let living : is_dropped (marks ++ false ∷ []) n ≡ false = mark_kept marks n ∙ get_or_past marks n false (omega (arith, len)) in
      let last : q n ≡ eqb p v = (λ i. option_map_or (λ u. eqb u v) (parent i) false && not (living i)) ∙ and_yes (eqb p v) in
      let split : count_by q (range_with_len 0 (length (with_child parents p))) ≡ count_by q (range_with_len 0 n) + count_by q (n ∷ []) =
      ap (λ (m : ℕ). count_by q (range_with_len 0 m)) longer ∙ ap (λ (xs : List ℕ). count_by q xs) (range_last 0 n)
      ∙ sum_by-append (λ (x : ℕ). cond (q x) 1 0) (range_with_len 0 n) ((0 + n) ∷ []) ∙ ap (λ (x : ℕ). count_by q (range_with_len 0 n) + count_by q (x ∷ [])) zero_plus in
      let only = count_cons q n [] in
      let term = ap {B = ℕ} (λ (b : Bool). cond b 1 0) last in
      let old : count_by q (range_with_len 0 n) ≡ living_children parents marks v =
      count_same q (is_living_child parents marks v) (range_with_len 0 n) (λ c among.
      let lt = (range_among 0 n c among).1 in
      λ i. option_map_or (λ u. eqb u v) (parent_kept parents tree p known c (omega (arith, lt)) i) false && not (mark_kept marks c i)) in
      omega (arith, split, only, term, old)

  -- the numbers after a child of p was made
  pub counted_grown : (living : List ℕ) (n : ℕ) → AreLivingCounts parents marks living → n ≡ get_or living p 0 + 1
      → AreLivingCounts (with_child parents p) (marks ++ false ∷ []) (set living p n ++ 0 ∷ [])
  counted_grown living n counted more =
      let size = counted.len in
      let longer = length_push parents (Some p) in
      let same = length-set living p n in
      record {
        len = omega (arith, size, longer, same, length_push (set living p n) 0);
        each = λ v within.
            let grown = living_grown v in
            elim (cases_lt v (length parents)) [
              | inl old ↦
                  get_or_append_left (set living p n) (0 ∷ []) 0 v (omega (arith, old, size, same))
                  ∙ elim (cases_eq v p) [
                    | inl here ↦
                        let term = ap {B = ℕ} (λ (b : Bool). cond b 1 0) (eq-eqb p v (sym here)) in
                        let at = counted.each p known in
                        let equal = ap (living_children parents marks) here in
                        ap (λ (x : ℕ). get_or (set living p n) x 0) here ∙ get_or-set_same living p n 0 (omega (arith, known, size))
                        ∙ omega (arith, grown, term, at, equal, more)
                    | inr apart ↦
                        let term = ap {B = ℕ} (λ (b : Bool). cond b 1 0) (ne_eqb p v (λ is. apart (sym is))) in
                        let at = counted.each v old in
                        get_or-set_other living p v n 0 apart ∙ omega (arith, grown, term, at)
                  ]
              | inr new ↦
                  let last : v ≡ length parents = omega (arith, within, longer, new) in
                  let term = ap {B = ℕ} (λ (b : Bool). cond b 1 0) (ne_eqb p v (λ is. omega (arith, is, known, last))) in
                  let none = childless parents tree marks v (omega (arith, last)) in
                  get_or_push (set living p n) 0 0 v (omega (arith, same, size, last)) ∙ omega (arith, grown, term, none)
            ];
      }

module _ (parents : Parents) (marks : Marks) (w p : ℕ) (known : w < length parents) (there : p < length parents) (above : parent_of parents w ≡ Some p)
    (len : length marks ≡ length parents) (lives : is_dropped marks w ≡ false) where
  -- a child of p was dropped
  living_dropped : (v : ℕ) → living_children parents (set marks w true) v + cond (eqb p v) 1 0 ≡ living_children parents marks v
  living_dropped v =
      let was : is_living_child parents marks v w ≡ eqb p v =
      (λ i. option_map_or (λ u. eqb u v) (above i) false && not (lives i)) ∙ and_yes (eqb p v) in
      let off : is_living_child parents (set marks w true) v w ≡ false =
      ap (λ (b : Bool). option_map_or (λ u. eqb u v) (parent_of parents w) false && not b) (get_or-set_same marks w true false (omega (arith, known, len)))
      ∙ and_no (option_map_or (λ u. eqb u v) (parent_of parents w) false) in
      let less = count_less (is_living_child parents marks v) (is_living_child parents (set marks w true) v) w 0 (length parents) (omega arith) (omega (arith, known))
      (λ x apart. ap (λ (b : Bool). option_map_or (λ u. eqb u v) (parent_of parents x) false && not b) (get_or-set_other marks w x true false apart)) off in
      let term = ap {B = ℕ} (λ (b : Bool). cond b 1 0) was in
      omega (arith, less, term)

  -- p has a living child until then
  pub counted_some : (living : List ℕ) → AreLivingCounts parents marks living → 1 ≤ get_or living p 0
  counted_some living counted =
      let mine = living_dropped p in
      let term = ap {B = ℕ} (λ (b : Bool). cond b 1 0) (eq-eqb p p refl) in
      let at = counted.each p there in
      omega (arith, mine, term, at)

  -- the numbers after a child of p was dropped
  pub counted_dropped : (living : List ℕ) (n : ℕ) → AreLivingCounts parents marks living → n + 1 ≡ get_or living p 0
      → AreLivingCounts parents (set marks w true) (set living p n)
  counted_dropped living n counted fewer =
      let size = counted.len in
      let same = length-set living p n in
      record {
        len = omega (arith, size, same);
        each = λ v within.
            let less = living_dropped v in
            elim (cases_eq v p) [
              | inl here ↦
                  let term = ap {B = ℕ} (λ (b : Bool). cond b 1 0) (eq-eqb p v (sym here)) in
                  let at = counted.each p there in
                  let equal = ap (living_children parents marks) here in
                  ap (λ (x : ℕ). get_or (set living p n) x 0) here ∙ get_or-set_same living p n 0 (omega (arith, there, size))
                  ∙ omega (arith, less, term, at, equal, fewer)
              | inr apart ↦
                  let term = ap {B = ℕ} (λ (b : Bool). cond b 1 0) (ne_eqb p v (λ is. apart (sym is))) in
                  let at = counted.each v within in
                  get_or-set_other living p v n 0 apart ∙ omega (arith, less, term, at)
            ];
      }
