-- Tests of neighbours in a list, one after the other.
use Rattle.std.proofs.Common.{◌≡◌, ◌+◌, ◌<◌, ◌≤◌, ℕ, suc, Bool, true, false, ltb, leb, ◌==◌, ◌&&◌, List, [], ◌∷◌, length, drop, map, get_or, ◌^◌, add-one, drop-cons, refl, sym, arith}
use Rattle.std.specs.List.{list_all}
use Rattle.std.proofs.lemmas.Bool.{lt-ltb, le-ltb, and_from}
use Rattle.std.proofs.lemmas.List.{drop_all}
use Rattle.strat_base.specs.declared.descriptors.Extent.{Extent}
use Rattle.def_bytes.specs.Manifest.{is_rising, are_apart, are_older, is_counted}

-- the first two ascend
pub rising_on : (xs : List ℕ) → 2 ≤ length xs → get_or xs 0 0 < get_or xs 1 0 → is_rising (drop 1 xs) ≡ is_rising xs
rising_on [] long lt = absurd (omega arith)
rising_on (x ∷ []) long lt = absurd (omega arith)
rising_on (x ∷ y ∷ rest) long lt = let yes : ltb x y ≡ true = lt-ltb x y lt in rw yes refl

-- the first two do not ascend
pub rising_broken : (xs : List ℕ) → 2 ≤ length xs → get_or xs 1 0 ≤ get_or xs 0 0 → is_rising xs ≡ false
rising_broken [] long le = absurd (omega arith)
rising_broken (x ∷ []) long le = absurd (omega arith)
rising_broken (x ∷ y ∷ rest) long le = let no : ltb x y ≡ false = le-ltb x y le in rw no refl

-- fewer than two numbers ascend
pub rising_over : (xs : List ℕ) → length xs < 2 → is_rising xs ≡ true
rising_over [] short = refl
rising_over (x ∷ []) short = refl
rising_over (x ∷ y ∷ rest) short = absurd (omega arith)

-- the first two stand apart
pub apart_on : (xs : List Extent) (x y : Extent) → 2 ≤ length xs → x ≡ get_or xs 0 x → y ≡ get_or xs 1 y → false ≡ (x.start + x.len == y.start)
    → are_apart (drop 1 xs) ≡ are_apart xs
apart_on [] x y long a b no' = absurd (omega arith)
apart_on (x' ∷ []) x y long a b no' = absurd (omega arith)
apart_on (x' ∷ y' ∷ rest) x y long a b no' = let here : (x'.start + x'.len == y'.start) ≡ false = rw (← a, ← b) (sym no') in rw here refl

-- the first two touch
pub apart_broken : (xs : List Extent) (x y : Extent) → 2 ≤ length xs → x ≡ get_or xs 0 x → y ≡ get_or xs 1 y → true ≡ (x.start + x.len == y.start)
    → are_apart xs ≡ false
apart_broken [] x y long a b yes' = absurd (omega arith)
apart_broken (x' ∷ []) x y long a b yes' = absurd (omega arith)
apart_broken (x' ∷ y' ∷ rest) x y long a b yes' = let here : (x'.start + x'.len == y'.start) ≡ true = rw (← a, ← b) (sym yes') in rw here refl

-- fewer than two extents stand apart
pub apart_over : (xs : List Extent) → length xs < 2 → are_apart xs ≡ true
apart_over [] short = refl
apart_over (x ∷ []) short = refl
apart_over (x ∷ y ∷ rest) short = absurd (omega arith)

module _ {X : Type 0} (f : X → ℕ) where
  -- the numbers of the first two ascend
  pub mapped_on : (xs : List X) (x y : X) → 2 ≤ length xs → x ≡ get_or xs 0 x → y ≡ get_or xs 1 y → f x < f y → is_rising (map f (drop 1 xs)) ≡ is_rising (map f xs)
  mapped_on [] x y long a b lt = absurd (omega arith)
  mapped_on (x' ∷ []) x y long a b lt = absurd (omega arith)
  mapped_on (x' ∷ y' ∷ rest) x y long a b lt = let here : f x' < f y' = rw (← a, ← b) lt in let yes : ltb (f x') (f y') ≡ true = lt-ltb _ _ here in rw yes refl

  -- the numbers of the first two do not ascend
  pub mapped_broken : (xs : List X) (x y : X) → 2 ≤ length xs → x ≡ get_or xs 0 x → y ≡ get_or xs 1 y → f y ≤ f x → is_rising (map f xs) ≡ false
  mapped_broken [] x y long a b le = absurd (omega arith)
  mapped_broken (x' ∷ []) x y long a b le = absurd (omega arith)
  mapped_broken (x' ∷ y' ∷ rest) x y long a b le = let here : f y' ≤ f x' = rw (← a, ← b) le in let no' : ltb (f x') (f y') ≡ false = le-ltb _ _ here in rw no' refl

  -- fewer than two ascend
  pub mapped_over : (xs : List X) → length xs < 2 → is_rising (map f xs) ≡ true
  mapped_over [] short = refl
  mapped_over (x ∷ []) short = refl
  mapped_over (x ∷ y ∷ rest) short = absurd (omega arith)

-- a parent is older
pub older_on : (xs : List ℕ) (i : ℕ) → i < length xs → get_or xs i 0 ≤ i → are_older (suc (i + 1)) (drop (i + 1) xs) ≡ are_older (suc i) (drop i xs)
older_on xs i more le =
    let yes : ltb (get_or xs i 0) (suc i) ≡ true = lt-ltb _ _ (omega arith) in
    rw (add-one, drop-cons xs i 0 more, yes) refl

-- a parent is not older
pub older_broken : (xs : List ℕ) (i : ℕ) → i < length xs → i < get_or xs i 0 → are_older (suc i) (drop i xs) ≡ false
older_broken xs i more lt =
    let no' : ltb (get_or xs i 0) (suc i) ≡ false = le-ltb _ _ (omega arith) in
    rw (drop-cons xs i 0 more, no') refl

-- all parents were looked at
pub older_over : (xs : List ℕ) (i : ℕ) → length xs ≤ i → are_older (suc i) (drop i xs) ≡ true
older_over xs i over = rw (drop_all i xs over) refl

-- numbers that fit
pub all_below : (n : ℕ) (xs : List ℕ) → ((k : ℕ) → get_or xs k 0 < n) → list_all (λ x. ltb x n) xs ≡ true
all_below n [] fits = refl
all_below n (x ∷ xs) fits = and_from (ltb x n) (list_all (λ y. ltb y n) xs) (lt-ltb x n (fits 0)) (all_below n xs (λ k. fits (suc k)))

-- a tag of numbers that fit passes where it can be counted and ascends
pub tag_passes : (xs : List ℕ) (rises : Bool) → (leb 1 (length xs) && ltb (length xs) (2 ^ 32)) ≡ true → ((k : ℕ) → get_or xs k 0 < 2 ^ 32) → rises ≡ is_rising xs
    → rises ≡ (is_counted xs && list_all (λ x. ltb x (2 ^ 32)) xs && is_rising xs)
tag_passes xs rises counted fits is = let all : list_all (λ x. ltb x (2 ^ 32)) xs ≡ true = all_below (2 ^ 32) xs fits in rw (counted, all) is
