-- Open cursors by their numbers: which one is meant, and what others keep when it moves on or goes.
use Rattle.std.proofs.Common.{◌≡◌, ◌<◌, ◌≤◌, ◌+◌, ℕ, zero, suc, Bool, true, false, not, cond, eqb, ltb, ◌||◌, inl, inr, List, [], ◌∷◌, ◌++◌, Some, None, length, map, get_or, take, drop, refl, sym, ap, ◌∙◌, subst, arith, length-append}
use Rattle.std.proofs.Math.ListN.{set}
use Rattle.std.specs.List.{AllByRecursion, filter, list_any, list_all, position, prefix_len, Contains}
use Rattle.std.specs.List.Sorted.{IsStrictlySortedBy}
use Rattle.std.specs.Ordering.{nat_cmp}
use Rattle.std.specs.declared.cmp.Ordering.TheVariants.{Less}
use Rattle.std.specs.Cmp.{nat_cmp_is}
use Rattle.std.proofs.lemmas.Bool.{ne_eqb, eq-eqb, eqb-true, ltb-false, true≢false, and_parts, or_left, or_right, or_cases}
use Rattle.std.proofs.lemmas.Cmp.{ranked}
use Rattle.std.proofs.lemmas.List.Kept.{IsStrictlySortedBy-filter}
use Rattle.std.proofs.lemmas.List.Quantifiers.{position-Some}
use Rattle.strat_base.proofs.ListFacts.{Among, all_at, all_from, any_from, none_at, filter_among}
use Rattle.strat_base.specs.declared.descriptors.ArrayDesc.{ArrayDesc}
use Rattle.strat_model.specs.Pairs.{Pairs}
use Rattle.def_recovery.proofs.BadLemmas.{contained_at}
use Rattle.strat_cursor.specs.Cursors.{OpenCursor, CursorsView, AreNumberedBelow, are_named, is_array_named, is_opened, moved_at, moved_on, those_named, without_cursor, closed_at}

-- what holds of all numbers holds of the one at a place
number_at : (P : ℕ → Type 0) (cursors : List OpenCursor) (i : ℕ) (d : OpenCursor) → AllByRecursion P (map {A = OpenCursor} (λ c. c.number) cursors) → i < length cursors
    → P (get_or cursors i d).number
number_at P [] i d all within = absurd (omega arith)
number_at P (c ∷ cursors) zero d all within = all.0
number_at P (c ∷ cursors) (suc i) d all within = number_at P cursors i d all.1 (omega arith)

module _ (n : ℕ) (f : OpenCursor → OpenCursor) where
  -- cursors with greater numbers are as they were
  above_same : (cursors : List OpenCursor) → AllByRecursion (λ y. nat_cmp n y ≡ Less) (map {A = OpenCursor} (λ c. c.number) cursors)
      → (filter {X = OpenCursor} (λ c. not (eqb c.number n)) cursors ≡ cursors) × (map {A = OpenCursor} (λ c. cond (eqb c.number n) (f c) c) cursors ≡ cursors)
  above_same [] above = (refl, refl)
  above_same (c ∷ cursors) above =
      let rest = above_same cursors above.1 in
      let lt : n < c.number = ranked n c.number Less (sym above.0) in
      let off : eqb c.number n ≡ false = ne_eqb c.number n (λ e. absurd (omega arith)) in (
        ap (λ b. cond (not b) (c ∷ filter {X = OpenCursor} (λ x. not (eqb x.number n)) cursors) (filter {X = OpenCursor} (λ x. not (eqb x.number n)) cursors)) off ∙ ap (λ (x : List OpenCursor). c ∷ x) rest.0,
        (λ i. cond (off i) (f c) c ∷ rest.1 i),
      )

  -- the cursor of a number is the one at its place alone
  pub at_its_place : (cursors : List OpenCursor) (i : ℕ) (d : OpenCursor) → IsStrictlySortedBy nat_cmp (map {A = OpenCursor} (λ c. c.number) cursors)
      → i < length cursors → (get_or cursors i d).number ≡ n
      → (filter {X = OpenCursor} (λ c. not (eqb c.number n)) cursors ≡ take i cursors ++ drop (suc i) cursors)
      × (map {A = OpenCursor} (λ c. cond (eqb c.number n) (f c) c) cursors ≡ set cursors i (f (get_or cursors i d)))
  unfolding IsStrictlySortedBy
  at_its_place [] i d sorted within is = absurd (omega arith)
  at_its_place (c ∷ cursors) zero d sorted within is =
      let rest = above_same cursors (subst (λ m. AllByRecursion (λ y. nat_cmp m y ≡ Less) (map {A = OpenCursor} (λ x. x.number) cursors)) is sorted.0) in
      let on : eqb c.number n ≡ true = eq-eqb c.number n is in (
        ap (λ b. cond (not b) (c ∷ filter {X = OpenCursor} (λ x. not (eqb x.number n)) cursors) (filter {X = OpenCursor} (λ x. not (eqb x.number n)) cursors)) on ∙ rest.0,
        (λ i. cond (on i) (f c) c ∷ rest.1 i),
      )
  at_its_place (c ∷ cursors) (suc i) d sorted within is =
      let rest = at_its_place cursors i d sorted.1 (omega arith) is in
      let less : nat_cmp c.number (get_or cursors i d).number ≡ Less = number_at (λ y. nat_cmp c.number y ≡ Less) cursors i d sorted.0 (omega arith) in
      let lt : c.number < (get_or cursors i d).number = ranked c.number (get_or cursors i d).number Less (sym less) in
      let off : eqb c.number n ≡ false = ne_eqb c.number n (λ e. absurd (omega arith)) in (
        ap (λ b. cond (not b) (c ∷ filter {X = OpenCursor} (λ x. not (eqb x.number n)) cursors) (filter {X = OpenCursor} (λ x. not (eqb x.number n)) cursors)) off ∙ ap (λ (x : List OpenCursor). c ∷ x) rest.0,
        (λ j. cond (off j) (f c) c ∷ rest.1 j),
      )

-- a test of no element
none_passes : {X : Type 0} (p : X → Bool) (xs : List X) → length xs ≤ prefix_len (λ x. not (p x)) xs → list_any p xs ≡ false
none_passes p [] long = refl
none_passes {X} p (x ∷ xs) long =
    elim (p x) as (λ b. p x ≡ b → length (x ∷ xs) ≤ cond (not b) (1 + prefix_len (λ y. not (p y)) xs) 0 → (b || list_any p xs) ≡ false) [
      | true ↦ λ is lt. absurd (omega arith)
      | false ↦ λ is lt. none_passes p xs (omega arith)
    ] refl long

-- where a search finds none there is none
pub place_none : {X : Type 0} (p : X → Bool) (xs : List X) → position p xs ≡ None → list_any p xs ≡ false
place_none p xs is = none_passes p xs (ltb-false (prefix_len (λ x. not (p x)) xs) (length xs) (decided (ltb (prefix_len (λ x. not (p x)) xs) (length xs)) is))
  where
    decided : (b : Bool) → cond b (Some (prefix_len (λ x. not (p x)) xs)) None ≡ None → b ≡ false
    decided true e = absurd (cc)
    decided false e = refl

-- an element at a place is one of them
pub element_at : {X : Type 0} (ys : List X) (k : ℕ) (e : X) → k < length ys → Among (get_or ys k e) ys
element_at [] k e lt = absurd (omega arith)
element_at (y ∷ ys) zero e lt = inl refl
element_at (y ∷ ys) (suc k) e lt = inr (element_at ys k e (omega arith))

-- where a search finds one there is one
pub place_some : {X : Type 0} (p : X → Bool) (xs : List X) (i : ℕ) (d : X) → position p xs ≡ Some i → list_any p xs ≡ true
place_some p xs i d is =
    let at = position-Some p xs i d is in
    any_from p (get_or xs i d) xs (element_at xs i d at.0) at.1

-- what a filter keeps where all pass
pub filter_whole : {X : Type 0} (p : X → Bool) (xs : List X) → list_all p xs ≡ true → filter p xs ≡ xs
filter_whole p [] all = refl
filter_whole p (x ∷ xs) all =
    let parts = and_parts (p x) (list_all p xs) all in
    ap (λ b. cond b (x ∷ filter p xs) (filter p xs)) parts.0 ∙ ap (λ (y : List _). x ∷ y) (filter_whole p xs parts.1)

-- all that a filter keeps pass
pub filter_all : {X : Type 0} (p : X → Bool) (xs : List X) → list_all p (filter p xs) ≡ true
filter_all p xs = all_from p (filter p xs) (λ x among. (filter_among p xs x among).1)

-- no cursor has a number where none was found
off_all : (n : ℕ) (cursors : List OpenCursor) → is_opened n cursors ≡ false → list_all {X = OpenCursor} (λ c. not (eqb c.number n)) cursors ≡ true
off_all n cursors none = all_from (λ c. not (eqb c.number n)) cursors (λ c among. ap not (none_at (λ x. eqb x.number n) c cursors none among))

-- a close of no cursor changes nothing
pub closed_none : (n : ℕ) (c : CursorsView) → is_opened n c.opened ≡ false → are_named c.opened c.retired ≡ true → closed_at n c ≡ c
closed_none n c none named =
    let same : without_cursor n c.opened ≡ c.opened = filter_whole (λ (x : OpenCursor). not (eqb x.number n)) c.opened (off_all n c.opened none) in
    (λ i. record c { opened = same i; retired = those_named (same i) c.retired })
    ∙ ap (λ (r : List ArrayDesc). record c { retired = r }) (filter_whole (λ a. is_array_named c.opened a.id) c.retired named)

-- the numbers of cursors after one moved on
numbers_moved : (n : ℕ) (more : Bool) (told : Pairs) (cursors : List OpenCursor)
    → map {A = OpenCursor} (λ c. c.number) (moved_at n more told cursors) ≡ map {A = OpenCursor} (λ c. c.number) cursors
numbers_moved n more told [] = refl
numbers_moved n more told (c ∷ cursors) = λ i. by (eqb c.number n) i ∷ numbers_moved n more told cursors i
  where
    by : (b : Bool) → (cond b (moved_on more told c) c).number ≡ c.number
    by true = refl
    by false = refl

-- the arrays that cursors name after one moved on
named_moved : (id n : ℕ) (more : Bool) (told : Pairs) (cursors : List OpenCursor) → is_array_named (moved_at n more told cursors) id ≡ is_array_named cursors id
named_moved id n more told [] = refl
named_moved id n more told (c ∷ cursors) = λ i. list_any (λ (a : ArrayDesc). eqb a.id id) (by (eqb c.number n) i) || named_moved id n more told cursors i
  where
    by : (b : Bool) → (cond b (moved_on more told c) c).arrays ≡ c.arrays
    by true = refl
    by false = refl

below_moved : (next n : ℕ) (more : Bool) (told : Pairs) (cursors : List OpenCursor) → AllByRecursion (λ (c : OpenCursor). c.number < next) cursors
    → AllByRecursion (λ (c : OpenCursor). c.number < next) (moved_at n more told cursors)
below_moved next n more told [] all = tt
below_moved next n more told (c ∷ cursors) all = (by (eqb c.number n), below_moved next n more told cursors all.1)
  where
    by : (b : Bool) → (cond b (moved_on more told c) c).number < next
    by true = all.0
    by false = all.0

length_moved : (n : ℕ) (more : Bool) (told : Pairs) (cursors : List OpenCursor) → length (moved_at n more told cursors) ≡ length cursors
length_moved n more told [] = refl
length_moved n more told (c ∷ cursors) = ap suc (length_moved n more told cursors)

-- each retired array is still named by cursors that name whatever others named
pub named_more : (old new : List OpenCursor) (arrays : List ArrayDesc) → ((id : ℕ) → is_array_named old id ≡ true → is_array_named new id ≡ true)
    → are_named old arrays ≡ true → are_named new arrays ≡ true
named_more old new arrays more all =
    all_from (λ a. is_array_named new a.id) arrays (λ a among. more a.id (all_at (λ x. is_array_named old x.id) a arrays all among))

-- what is kept of the fields when a cursor moved on
pub record KeepsOpened (new : List OpenCursor) (next most : ℕ) (retired : List ArrayDesc) : Type 0 where
  pub numbered : AreNumberedBelow new next
  pub few : length new ≤ most
  pub named : are_named new retired ≡ true

pub moved_keeps : (n : ℕ) (more : Bool) (told : Pairs) (cursors : List OpenCursor) (next most : ℕ) (retired : List ArrayDesc)
    → AreNumberedBelow cursors next → length cursors ≤ most → are_named cursors retired ≡ true
    → KeepsOpened (moved_at n more told cursors) next most retired
moved_keeps n more told cursors next most retired numbered few named = record {
  numbered = record {
    ascending = subst (λ (x : List ℕ). IsStrictlySortedBy nat_cmp x) (sym (numbers_moved n more told cursors)) numbered.ascending;
    below = below_moved next n more told cursors numbered.below;
  };
  few = omega (arith, few, length_moved n more told cursors);
  named = named_more cursors (moved_at n more told cursors) retired (λ id is. named_moved id n more told cursors ∙ is) named;
}

numbers_filter : (n : ℕ) (cursors : List OpenCursor)
    → map {A = OpenCursor} (λ c. c.number) (without_cursor n cursors) ≡ filter (λ m. not (eqb m n)) (map {A = OpenCursor} (λ c. c.number) cursors)
numbers_filter n [] = refl
numbers_filter n (c ∷ cursors) = by (not (eqb c.number n)) (numbers_filter n cursors)
  where
    by : (b : Bool) → map {A = OpenCursor} (λ x. x.number) (without_cursor n cursors) ≡ filter (λ m. not (eqb m n)) (map {A = OpenCursor} (λ x. x.number) cursors)
        → map {A = OpenCursor} (λ x. x.number) (cond b (c ∷ without_cursor n cursors) (without_cursor n cursors))
        ≡ cond b (c.number ∷ filter (λ m. not (eqb m n)) (map {A = OpenCursor} (λ x. x.number) cursors)) (filter (λ m. not (eqb m n)) (map {A = OpenCursor} (λ x. x.number) cursors))
    by true rest = ap (λ (x : List ℕ). c.number ∷ x) rest
    by false rest = rest

below_filter : (next n : ℕ) (cursors : List OpenCursor) → AllByRecursion (λ (c : OpenCursor). c.number < next) cursors
    → AllByRecursion (λ (c : OpenCursor). c.number < next) (without_cursor n cursors)
below_filter next n [] all = tt
below_filter next n (c ∷ cursors) all = by (not (eqb c.number n)) (below_filter next n cursors all.1)
  where
    by : (b : Bool) → AllByRecursion (λ (x : OpenCursor). x.number < next) (without_cursor n cursors)
        → AllByRecursion (λ (x : OpenCursor). x.number < next) (cond b (c ∷ without_cursor n cursors) (without_cursor n cursors))
    by true rest = (all.0, rest)
    by false rest = rest

length_filter : {X : Type 0} (p : X → Bool) (xs : List X) → length (filter p xs) ≤ length xs
length_filter p [] = omega arith
length_filter p (x ∷ xs) = by (p x) (length_filter p xs)
  where
    by : (b : Bool) → length (filter p xs) ≤ length xs → length (cond b (x ∷ filter p xs) (filter p xs)) ≤ length (x ∷ xs)
    by true rest = omega arith
    by false rest = omega arith

pub closed_keeps : (n : ℕ) (cursors : List OpenCursor) (next most : ℕ) (retired : List ArrayDesc)
    → AreNumberedBelow cursors next → length cursors ≤ most
    → KeepsOpened (without_cursor n cursors) next most (those_named (without_cursor n cursors) retired)
closed_keeps n cursors next most retired numbered few = record {
  numbered = record {
    ascending = subst (λ (x : List ℕ). IsStrictlySortedBy nat_cmp x) (sym (numbers_filter n cursors))
        (IsStrictlySortedBy-filter nat_cmp (λ m. not (eqb m n)) (map {A = OpenCursor} (λ c. c.number) cursors) numbered.ascending);
    below = below_filter next n cursors numbered.below;
  };
  few = omega (arith, few, length_filter (λ (c : OpenCursor). not (eqb c.number n)) cursors);
  named = filter_all (λ (a : ArrayDesc). is_array_named (without_cursor n cursors) a.id) retired;
}

pub none_keeps : (next most : ℕ) (cursors : List OpenCursor) (retired : List ArrayDesc) → cursors ≡ [] → retired ≡ [] → KeepsOpened cursors next most retired
unfolding IsStrictlySortedBy
none_keeps next most [] [] none empty = record { numbered = record { ascending = tt; below = tt }; few = omega arith; named = refl }
none_keeps next most (c ∷ cursors) retired none empty = absurd (cc)
none_keeps next most [] (a ∷ retired) none empty = absurd (cc)

-- numbers ascend with a greater one behind them
ascend_more : (cursors : List OpenCursor) (c : OpenCursor) → IsStrictlySortedBy nat_cmp (map {A = OpenCursor} (λ x. x.number) cursors)
    → AllByRecursion (λ (x : OpenCursor). x.number < c.number) cursors → IsStrictlySortedBy nat_cmp (map {A = OpenCursor} (λ x. x.number) (cursors ++ c ∷ []))
unfolding IsStrictlySortedBy
ascend_more [] c sorted below = (tt, tt)
ascend_more (d ∷ cursors) c sorted below = (all_more cursors sorted.0, ascend_more cursors c sorted.1 below.1)
  where
    all_more : (xs : List OpenCursor) → AllByRecursion (λ y. nat_cmp d.number y ≡ Less) (map {A = OpenCursor} (λ x. x.number) xs)
        → AllByRecursion (λ y. nat_cmp d.number y ≡ Less) (map {A = OpenCursor} (λ x. x.number) (xs ++ c ∷ []))
    all_more [] all = (sym (nat_cmp_is d.number c.number Less below.0), tt)
    all_more (x ∷ xs) all = (all.0, all_more xs all.1)

below_more_by : (next : ℕ) (cursors : List OpenCursor) (c : OpenCursor) → AllByRecursion (λ (x : OpenCursor). x.number < next) cursors → c.number ≡ next
    → AllByRecursion (λ (x : OpenCursor). x.number < next + 1) (cursors ++ c ∷ [])
below_more_by next [] c all is = (omega arith, tt)
below_more_by next (d ∷ cursors) c all is = (omega (arith, all.0), below_more_by next cursors c all.1 is)

-- what some cursors name more of them name
named_front : (cursors : List OpenCursor) (c : OpenCursor) (id : ℕ) → is_array_named cursors id ≡ true → is_array_named (cursors ++ c ∷ []) id ≡ true
named_front [] c id is = absurd (true≢false (sym is))
named_front (d ∷ cursors) c id is =
    elim (or_cases (list_any (λ (a : ArrayDesc). eqb a.id id) d.arrays) (is_array_named cursors id) is) [
      | inl here ↦ or_left (list_any (λ (a : ArrayDesc). eqb a.id id) d.arrays) (is_array_named (cursors ++ c ∷ []) id) here
      | inr there ↦ or_right (list_any (λ (a : ArrayDesc). eqb a.id id) d.arrays) (is_array_named (cursors ++ c ∷ []) id) (named_front cursors c id there)
    ]

pub started_keeps : (cursors : List OpenCursor) (c : OpenCursor) (next most : ℕ) (retired : List ArrayDesc)
    → AreNumberedBelow cursors next → length cursors < most → are_named cursors retired ≡ true → c.number ≡ next
    → KeepsOpened (cursors ++ c ∷ []) (next + 1) most retired
started_keeps cursors c next most retired numbered few named is = record {
  numbered = record {
    ascending = ascend_more cursors c numbered.ascending (subst (λ n. AllByRecursion (λ (x : OpenCursor). x.number < n) cursors) (sym is) numbered.below);
    below = below_more_by next cursors c numbered.below is;
  };
  few = omega (arith, few, length-append {A = OpenCursor});
  named = named_more cursors (cursors ++ c ∷ []) retired (named_front cursors c) named;
}

-- later numbers are greater
number_later : (n : ℕ) (cursors : List OpenCursor) (x : OpenCursor) → AllByRecursion (λ y. nat_cmp n y ≡ Less) (map {A = OpenCursor} (λ c. c.number) cursors)
    → Among x cursors → n < x.number
number_later n [] x all among = absurd among
number_later n (c ∷ cursors) x all (inl here) =
    let lt : n < c.number = ranked n c.number Less (sym all.0) in subst (λ (y : OpenCursor). n < y.number) (sym here) lt
number_later n (c ∷ cursors) x all (inr there) = number_later n cursors x all.1 there

-- a number is that of one cursor alone
one_of_number : (cursors : List OpenCursor) (i : ℕ) (d x : OpenCursor) (n : ℕ) → IsStrictlySortedBy nat_cmp (map {A = OpenCursor} (λ c. c.number) cursors)
    → i < length cursors → (get_or cursors i d).number ≡ n → Among x cursors → x.number ≡ n → x ≡ get_or cursors i d
unfolding IsStrictlySortedBy
one_of_number [] i d x n sorted within is among also = absurd among
one_of_number (c ∷ cursors) zero d x n sorted within is (inl here) also = here
one_of_number (c ∷ cursors) zero d x n sorted within is (inr there) also =
    let lt : c.number < x.number = number_later c.number cursors x sorted.0 there in absurd (omega arith)
one_of_number (c ∷ cursors) (suc i) d x n sorted within is (inl here) also =
    let lt : c.number < (get_or cursors i d).number = number_later c.number cursors (get_or cursors i d) sorted.0 (element_at cursors i d (omega arith)) in
    let same : x.number ≡ c.number = ap (λ (y : OpenCursor). y.number) here in
    absurd (omega arith)
one_of_number (c ∷ cursors) (suc i) d x n sorted within is (inr there) also = one_of_number cursors i d x n sorted.1 (omega arith) is there also

-- where a number stands among cursors, and what they are without it
pub record IsFoundAt (cursors : List OpenCursor) (n i : ℕ) (d : OpenCursor) : Type 0 where
  pub within : i < length cursors
  pub number : (get_or cursors i d).number ≡ n
  pub opened : is_opened n cursors ≡ true
  pub rest : without_cursor n cursors ≡ take i cursors ++ drop (suc i) cursors
  pub only : (x : OpenCursor) → Contains cursors x → x.number ≡ n → x ≡ get_or cursors i d
  pub moved : (more : Bool) (told : Pairs) → moved_at n more told cursors ≡ set cursors i (moved_on more told (get_or cursors i d))

pub found_at : (cursors : List OpenCursor) (next n i : ℕ) (d : OpenCursor) → AreNumberedBelow cursors next
    → Some i ≡ position (λ (c : OpenCursor). eqb c.number n) cursors → IsFoundAt cursors n i d
found_at cursors next n i d numbered is =
    let at = position-Some (λ (c : OpenCursor). eqb c.number n) cursors i d (sym is) in
    let number = eqb-true (get_or cursors i d).number n at.1 in
    record {
      within = at.0;
      number = number;
      opened = place_some (λ (c : OpenCursor). eqb c.number n) cursors i d (sym is);
      rest = (at_its_place n (λ c. c) cursors i d numbered.ascending at.0 number).0;
      only = λ x there also. one_of_number cursors i d x n numbered.ascending at.0 number (contained_at x cursors there.0 there.1 there.2) also;
      moved = λ more told. (at_its_place n (moved_on more told) cursors i d numbered.ascending at.0 number).1;
    }
