-- Marks in memory, where a number stands for each.
use Rattle.std.proofs.Common.{◌≡◌, ◌<◌, ◌≤◌, ◌+◌, ℕ, zero, suc, Bool, true, false, eqb, leb, ltb, not, ◌&&◌, ◌||◌, cond, get_or, map, replicate, add-one, drop-cons, List, [], ◌∷◌, ◌++◌, length, take, drop, Option, Some, None, refl, sym, ap, ◌∙◌, arith, append_assoc, append-nil, length-append, ◌-◌, ◌^◌}
use Rattle.std.specs.List.{flat_map, list_all, slice_get, range_with_len}
use Rattle.std.specs.Option.{option_map_or, option_and_then}
use Rattle.std.proofs.lemmas.Bool.{and_parts, and_from, leb-true, le-leb, ltb-true}
use Rattle.std.proofs.lemmas.List.{drop_all, drop_at, take_all, length-map}
use Rattle.strat_base.specs.Marks.{Marks, is_dropped, are_pruned}
use Rattle.strat_base.specs.Numbers.{be, number}
use Rattle.strat_base.proofs.NumberLemmas.{length-be, number-be}
use Rattle.strat_base.specs.Tree.{Parents, parent_of}
use Rattle.def_bytes.specs.Manifest.{mark_bytes}
use Rattle.strat_manifest.specs.ManifestView.{is_set, marks_listed, are_marks}
use Rattle.strat_manifest.specs.Pruned.{are_pruned_from}

pub length-marks : (xs : List ℕ) → length (marks_listed xs) ≡ length xs
length-marks xs = length-map xs is_set

-- no mark is set
pub none_set : (xs : List ℕ) → list_all (λ n. not (eqb n 1)) xs ≡ list_all not (marks_listed xs)
none_set [] = refl
none_set (x ∷ xs) = ap (λ (b : Bool). not (eqb x 1) && b) (none_set xs)

-- the mark at a place
pub mark_at : (xs : List ℕ) (v : ℕ) → v < length xs → get_or (marks_listed xs) v false ≡ eqb (get_or xs v 0) 1
mark_at [] v within = absurd (omega arith)
mark_at (x ∷ xs) zero within = refl
mark_at (x ∷ xs) (suc v) within = mark_at xs v (omega arith)

-- there is none behind the last
pub mark_past : (xs : List ℕ) (v : ℕ) → length xs ≤ v → get_or (marks_listed xs) v false ≡ false
mark_past [] v past = refl
mark_past (x ∷ xs) zero past = absurd (omega arith)
mark_past (x ∷ xs) (suc v) past = mark_past xs v (omega arith)

module _ (marks : Marks) where
  pub below_on : (xs : List ℕ) (i : ℕ) → i < length xs → true ≡ (not (is_dropped marks (get_or xs i 0)) || is_dropped marks (i + 1))
      → are_pruned_from marks (suc (i + 1)) (drop (i + 1) xs) ≡ are_pruned_from marks (suc i) (drop i xs)
  below_on xs i more goes =
      let yes : (not (is_dropped marks (get_or xs i 0)) || is_dropped marks (suc i)) ≡ true = rw (← add-one i) (sym goes) in
      rw (add-one, drop-cons xs i 0 more, yes) refl

  pub below_broken : (xs : List ℕ) (i : ℕ) → i < length xs → false ≡ (not (is_dropped marks (get_or xs i 0)) || is_dropped marks (i + 1))
      → are_pruned_from marks (suc i) (drop i xs) ≡ false
  below_broken xs i more stays =
      let no' : (not (is_dropped marks (get_or xs i 0)) || is_dropped marks (suc i)) ≡ false = rw (← add-one i) (sym stays) in
      rw (drop-cons xs i 0 more, no') refl

  pub below_over : (xs : List ℕ) (i : ℕ) → length xs ≤ i → are_pruned_from marks (suc i) (drop i xs) ≡ true
  below_over xs i over = rw (drop_all i xs over) refl

  -- the test of a version in a tree
  tested : Parents → ℕ → Bool
  tested parents v = option_map_or (λ p. not (is_dropped marks p) || is_dropped marks v) (parent_of parents v) true

  seam : (front back : Parents) (o : Option ℕ) → slice_get (front ++ o ∷ back) (length front) ≡ Some o
  seam [] back o = refl
  seam (x ∷ front) back o = seam front back o

  below_from : (front : Parents) (xs : List ℕ) → list_all (tested (front ++ map (λ p. Some p) xs)) (range_with_len (length front) (length xs)) ≡ are_pruned_from marks (length front) xs
  unfolding tested
  below_from front [] = refl
  below_from front (x ∷ xs) =
      let longer : length (front ++ Some x ∷ []) ≡ length front + 1 = omega (arith, length-append front (Some x ∷ [])) in
      let joined : (front ++ Some x ∷ []) ++ map (λ p. Some p) xs ≡ front ++ Some x ∷ map (λ p. Some p) xs = append_assoc front (Some x ∷ []) (map (λ p. Some p) xs) in
      let rest = below_from (front ++ Some x ∷ []) xs in
      let here : option_and_then (λ (parent : Option ℕ). parent) (slice_get (front ++ Some x ∷ map (λ p. Some p) xs) (length front)) ≡ Some x =
      ap (option_and_then (λ (parent : Option ℕ). parent)) (seam front (map (λ p. Some p) xs) (Some x)) in
      let behind : list_all (tested (front ++ Some x ∷ map (λ p. Some p) xs)) (range_with_len (length front + 1) (length xs)) ≡ are_pruned_from marks (suc (length front)) xs =
      (λ i. list_all (tested (sym joined i)) (range_with_len (sym longer i) (length xs))) ∙ rest ∙ ap (λ (n : ℕ). are_pruned_from marks n xs) (longer ∙ add-one (length front)) in
      (λ i. option_map_or (λ p. not (is_dropped marks p) || is_dropped marks (length front)) (here i) true
      && behind i)

  pub pruned_tests : (parents : List ℕ) → are_pruned (None ∷ map (λ p. Some p) parents) marks
      ≡ (eqb (length marks) (suc (length parents)) && not (is_dropped marks 0) && are_pruned_from marks 1 parents)
  unfolding tested
  pruned_tests parents =
      let tree : Parents = None ∷ map (λ p. Some p) parents in
      let size : length (map (λ p. Some p) parents) ≡ length parents = length-map parents (λ (p : ℕ). Some p) in
      let tail : list_all (tested tree) (range_with_len 0 (suc (length (map (λ p. Some p) parents)))) ≡ are_pruned_from marks 1 parents =
      ap (λ (n : ℕ). list_all (tested tree) (range_with_len 0 (suc n))) size ∙ below_from (None ∷ []) parents in
      λ i. eqb (length marks) (suc (size i)) && not (is_dropped marks 0) && tail i

-- the tests of marks in memory
pub pruned_is : (parents xs : List ℕ) → are_pruned (None ∷ map (λ p. Some p) parents) (marks_listed xs)
    ≡ (eqb (length xs) (length parents + 1) && not (is_dropped (marks_listed xs) 0) && are_pruned_from (marks_listed xs) 1 parents)
pruned_is parents xs =
    pruned_tests (marks_listed xs) parents
    ∙ (λ i. eqb (length-marks xs i) (sym (add-one (length parents)) i) && not (is_dropped (marks_listed xs) 0) && are_pruned_from (marks_listed xs) 1 parents)

-- one more zero of so many
pub one_more_zero : (n i : ℕ) (xs all : List ℕ) → i < n → xs ++ replicate (n - i) 0 ≡ all → (xs ++ 0 ∷ []) ++ replicate (n - (i + 1)) 0 ≡ all
one_more_zero n i xs all more sofar =
    let left : n - i ≡ suc (n - (i + 1)) = omega arith in
    append_assoc xs (0 ∷ []) (replicate (n - (i + 1)) 0) ∙ ap (λ (k : ℕ). xs ++ replicate k 0) (sym left) ∙ sofar

-- all of them
pub all_zeros : (n i : ℕ) (xs all : List ℕ) → n ≤ i → xs ++ replicate (n - i) 0 ≡ all → xs ≡ all
all_zeros n i xs all over sofar =
    let left : n - i ≡ 0 = omega arith in
    sym (append-nil xs) ∙ ap (λ (k : ℕ). xs ++ replicate k 0) (sym left) ∙ sofar

-- the byte of the mark that a number stands for
abbrev pub mark_text : ℕ → List ℕ
mark_text n = mark_bytes (is_set n)

marks_text : (xs : List ℕ) → flat_map mark_text xs ≡ flat_map mark_bytes (marks_listed xs)
marks_text [] = refl
marks_text (x ∷ xs) = ap (λ (bytes : List ℕ). mark_text x ++ bytes) (marks_text xs)

-- the bytes of all marks were added
pub marks_joined : (xs : List ℕ) (i : ℕ) → length xs ≤ i → flat_map mark_text (take i xs) ≡ flat_map mark_bytes (marks_listed xs)
marks_joined xs i over = ap (flat_map mark_text) (take_all i xs over) ∙ marks_text xs

pub marks_size : (marks : Marks) → length (flat_map mark_bytes marks) ≡ length marks
marks_size [] = refl
marks_size (mark ∷ marks) =
    let one = length-be 1 (cond mark 1 0) in omega (arith, length-append (mark_bytes mark) (flat_map mark_bytes marks), marks_size marks, one)

-- no version was dropped
pub marks_zeros : (n : ℕ) → marks_listed (replicate n 0) ≡ replicate n false
marks_zeros zero = refl
marks_zeros (suc n) = ap (λ (ms : List Bool). false ∷ ms) (marks_zeros n)

-- all of these zeros mark no version
pub all_living : (n i : ℕ) (xs : List ℕ) → n ≤ i → xs ++ replicate (n - i) 0 ≡ replicate (suc n) 0 → marks_listed xs ≡ replicate (suc n) false
all_living n i xs over sofar = ap marks_listed (all_zeros n i xs (replicate (suc n) 0) over sofar) ∙ marks_zeros (suc n)

pub zeros_are_marks : (n : ℕ) → are_marks (replicate n 0) ≡ true
zeros_are_marks zero = refl
zeros_are_marks (suc n) = zeros_are_marks n

-- numbers that are those of marks are spelled as the marks
pub marks_spelled : (xs : List ℕ) → are_marks xs ≡ true → flat_map (be 1) xs ≡ flat_map mark_bytes (marks_listed xs)
marks_spelled [] are = refl
marks_spelled (x ∷ xs) are =
    let parts = and_parts (leb x 1) (are_marks xs) are in
    (λ i. one x (leb-true x 1 parts.0) i ++ marks_spelled xs parts.1 i)
  where
    one : (x : ℕ) → x ≤ 1 → be 1 x ≡ mark_bytes (is_set x)
    one zero low = refl
    one (suc zero) low = refl
    one (suc (suc x)) low = absurd (omega arith)

-- and other numbers are not
pub marks_told : (xs : List ℕ) → list_all (λ x. ltb x 256) xs ≡ true → flat_map (be 1) xs ≡ flat_map mark_bytes (marks_listed xs) → are_marks xs ≡ true
marks_told [] fits same = refl
marks_told (x ∷ xs) fits same =
    let parts = and_parts (ltb x 256) (list_all (λ y. ltb y 256) xs) fits in
    let low = ltb-true x 256 parts.0 in
    let first : x ≡ cond (eqb x 1) 1 0 =
    sym (number-be 1 x (flat_map (be 1) xs) low) ∙ ap (number 1) same ∙ number-be 1 (cond (eqb x 1) 1 0) (flat_map mark_bytes (marks_listed xs)) (below (eqb x 1)) in
    let behind : flat_map (be 1) xs ≡ flat_map mark_bytes (marks_listed xs) =
    sym (drop_at (be 1 x) (flat_map (be 1) xs) 1 (length-be 1 x)) ∙ ap (drop 1) same ∙ drop_at (mark_bytes (is_set x)) (flat_map mark_bytes (marks_listed xs)) 1 (length-be 1 (cond (eqb x 1) 1 0)) in
    and_from (leb x 1) (are_marks xs) (le-leb x 1 (let le = few (eqb x 1) in omega (arith, first, le))) (marks_told xs parts.1 behind)
  where
    few : (b : Bool) → cond b 1 0 ≤ 1
    few true = omega arith
    few false = omega arith

    below : (b : Bool) → cond b 1 0 < 256 ^ 1
    below true = omega arith
    below false = omega arith
