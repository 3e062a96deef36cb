-- What is left of a range behind a page of it.
use Rattle.std.proofs.Common.{◌≡◌, ◌<◌, ◌≤◌, ◌-◌, ℕ, zero, suc, Bool, true, false, not, cond, ltb, ◌&&◌, List, [], ◌∷◌, ◌++◌, Option, Some, None, length, get_or, drop, refl, sym, ap, ◌∙◌, arith}
use Rattle.std.specs.List.{AllByRecursion, filter}
use Rattle.std.specs.List.Sorted.{IsStrictlySortedBy}
use Rattle.std.specs.Map.{keys_of}
use Rattle.std.specs.Ordering.{is_lt, nat_cmp, ordering_then, ordering_reverse}
use Rattle.std.specs.declared.cmp.Ordering.{Ordering}
use Rattle.std.specs.declared.cmp.Ordering.TheVariants.{Less, Equal, Greater}
use Rattle.std.proofs.lemmas.Cmp.{nat_list_cmp_total, tied_itself, ranked}
use Rattle.std.proofs.Math.Bool.{not-not}
use Rattle.strat_base.specs.Order.{key_cmp}
use Rattle.strat_model.specs.Pairs.{Pair, Pairs, is_between, range}
use Rattle.strat_model.specs.Kept.{IsMap}
use Rattle.strat_cursor.specs.Ranges.{IsPageOf}
use Rattle.strat_cursor.specs.Cursors.{OpenCursor, range_left, pairs_left, behind_told, goes_on, TellsNext}
use Rattle.std.proofs.lemmas.List.{get_or-take, drop_all, length-take-le}
use Rattle.strat_model.proofs.MapLemmas.{filter_keeps_map}
use Rattle.std.proofs.lemmas.Bool.{and_parts, not-true, ltb-false, ltb-true, lt-ltb, true≢false}
use Rattle.std.proofs.lemmas.List.Elements.{filter_passes}

-- no number is below zero
zero_least : (x : ℕ) (o : Ordering) → o ≡ nat_cmp x 0 → (rest : Ordering) → is_lt rest ≡ false → is_lt (ordering_then o rest) ≡ false
zero_least x Less h rest r = let lt : x < 0 = ranked x 0 Less h in absurd (omega arith)
zero_least x Equal h rest r = r
zero_least x Greater h rest r = refl

-- nothing is below the empty key
empty_least : (xs : List ℕ) → is_lt (key_cmp xs []) ≡ false
empty_least [] = refl
empty_least (x ∷ xs) = refl

-- the orders of two numbers, both ways
both_ways : (x y : ℕ) (o p : Ordering) → o ≡ nat_cmp x y → p ≡ nat_cmp y x → (rest back : Ordering) → is_lt rest ≡ not (is_lt back)
    → is_lt (ordering_then o rest) ≡ not (is_lt (ordering_then p back))
both_ways x y Less Less h k rest back r = let a : x < y = ranked x y Less h in let b : y < x = ranked y x Less k in absurd (omega arith)
both_ways x y Less Equal h k rest back r = let a : x < y = ranked x y Less h in let b : y ≡ x = ranked y x Equal k in absurd (omega arith)
both_ways x y Less Greater h k rest back r = refl
both_ways x y Equal Less h k rest back r = let a : x ≡ y = ranked x y Equal h in let b : y < x = ranked y x Less k in absurd (omega arith)
both_ways x y Equal Equal h k rest back r = r
both_ways x y Equal Greater h k rest back r = let a : x ≡ y = ranked x y Equal h in let b : x < y = ranked y x Greater k in absurd (omega arith)
both_ways x y Greater Less h k rest back r = refl
both_ways x y Greater Equal h k rest back r = let a : y < x = ranked x y Greater h in let b : y ≡ x = ranked y x Equal k in absurd (omega arith)
both_ways x y Greater Greater h k rest back r = let a : y < x = ranked x y Greater h in let b : x < y = ranked y x Greater k in absurd (omega arith)

-- a key that is below the next one after k is not above k
pub below_next : (key k : List ℕ) → is_lt (key_cmp key (k ++ 0 ∷ [])) ≡ not (is_lt (key_cmp k key))
below_next [] [] = refl
below_next [] (y ∷ ys) = refl
below_next (x ∷ xs) [] = zero_least x (nat_cmp x 0) refl (key_cmp xs []) (empty_least xs)
below_next (x ∷ xs) (y ∷ ys) = both_ways x y (nat_cmp x y) (nat_cmp y x) refl refl (key_cmp xs (ys ++ 0 ∷ [])) (key_cmp ys xs) (below_next xs ys)

-- a key above k is not below what k is not below
above_next : (k lo key : List ℕ) → is_lt (key_cmp k lo) ≡ false → (o : Ordering) → o ≡ key_cmp k key → (p : Ordering) → p ≡ key_cmp key lo
    → is_lt o ≡ (not (is_lt p) && is_lt o)
above_next k lo key at Less h Less q = absurd (let e = ap is_lt (nat_list_cmp_total.trans k key lo (sym h) (sym q)) in true≢false (sym e ∙ at))
above_next k lo key at Less h Equal q = refl
above_next k lo key at Less h Greater q = refl
above_next k lo key at Equal h Less q = refl
above_next k lo key at Equal h Equal q = refl
above_next k lo key at Equal h Greater q = refl
above_next k lo key at Greater h Less q = refl
above_next k lo key at Greater h Equal q = refl
above_next k lo key at Greater h Greater q = refl

-- what is from the least key after k on
from_next : (lo k key : List ℕ) → is_lt (key_cmp k lo) ≡ false
    → not (is_lt (key_cmp key (k ++ 0 ∷ []))) ≡ (not (is_lt (key_cmp key lo)) && is_lt (key_cmp k key))
from_next lo k key at =
    ap not (below_next key k) ∙ not-not (is_lt (key_cmp k key)) ∙ above_next k lo key at (key_cmp k key) refl (key_cmp key lo) refl

-- what is between the least key after k and an upper bound
between_next : (lo hi k key : List ℕ) → is_lt (key_cmp k lo) ≡ false
    → is_between (k ++ 0 ∷ []) hi key ≡ (is_between lo hi key && is_lt (key_cmp k key))
between_next lo [] k key at = from_next lo k key at
between_next lo (b ∷ hi) k key at =
    ap (λ x. x && is_lt (key_cmp key (b ∷ hi))) (from_next lo k key at)
    ∙ swapped (not (is_lt (key_cmp key lo))) (is_lt (key_cmp k key)) (is_lt (key_cmp key (b ∷ hi)))
  where
    swapped : (x y z : Bool) → ((x && y) && z) ≡ ((x && z) && y)
    swapped false y z = refl
    swapped true false false = refl
    swapped true false true = refl
    swapped true true false = refl
    swapped true true true = refl

-- what a test picks of what another picked
picks_both : (p q r : Pair → Bool) → ((e : Pair) → r e ≡ (p e && q e)) → (m : Pairs) → filter r m ≡ filter q (filter p m)
picks_both p q r same [] = refl
picks_both p q r same (e ∷ m) =
    ap (λ b. cond b (e ∷ filter r m) (filter r m)) (same e) ∙ by (picks_both p q r same m) (p e)
  where
    by : filter r m ≡ filter q (filter p m) → (b : Bool)
        → cond (b && q e) (e ∷ filter r m) (filter r m) ≡ filter q (cond b (e ∷ filter p m) (filter p m))
    by rest false = rest
    by rest true = ap (λ x. cond (q e) (e ∷ x) x) rest

-- keys above k are all picked by being above it
all_above : (k : List ℕ) (m : Pairs) → AllByRecursion (λ x. key_cmp k x ≡ Less) (keys_of m) → filter (λ (p : Pair). is_lt (key_cmp k p.0)) m ≡ m
all_above k [] above = refl
all_above k (e ∷ m) above =
    (λ i. cond (is_lt (above.0 i)) (e ∷ filter (λ (p : Pair). is_lt (key_cmp k p.0)) m) (filter (λ (p : Pair). is_lt (key_cmp k p.0)) m))
    ∙ ap (λ (x : Pairs). e ∷ x) (all_above k m above.1)

-- what holds of all keys holds of one
key_at : (P : List ℕ → Type 0) (m : Pairs) (i : ℕ) (d : Pair) → AllByRecursion P (keys_of m) → i < length m → P (get_or m i d).0
key_at P [] i d all within = absurd (omega arith)
key_at P (e ∷ m) zero d all within = all.0
key_at P (e ∷ m) (suc i) d all within = key_at P m i d all.1 (omega arith)

-- the pairs of a map behind a place are those with keys above the one there
behind_place : (m : Pairs) (i : ℕ) (d : Pair) → IsMap m → i < length m
    → filter (λ (p : Pair). is_lt (key_cmp (get_or m i d).0 p.0)) m ≡ drop (suc i) m
unfolding IsStrictlySortedBy
behind_place [] i d sorted within = absurd (omega arith)
behind_place (e ∷ m) zero d sorted within =
    ap (λ o. cond (is_lt o) (e ∷ filter (λ (p : Pair). is_lt (key_cmp e.0 p.0)) m) (filter (λ (p : Pair). is_lt (key_cmp e.0 p.0)) m)) (tied_itself nat_list_cmp_total e.0)
    ∙ all_above e.0 m sorted.0
behind_place (e ∷ m) (suc i) d sorted within =
    let above : key_cmp e.0 (get_or m i d).0 ≡ Less = key_at (λ x. key_cmp e.0 x ≡ Less) m i d sorted.0 (omega arith) in
    let below : key_cmp (get_or m i d).0 e.0 ≡ Greater = nat_list_cmp_total.antisymm (get_or m i d).0 e.0 ∙ ap ordering_reverse above in
    ap (λ o. cond (is_lt o) (e ∷ filter (λ (p : Pair). is_lt (key_cmp (get_or m i d).0 p.0)) m) (filter (λ (p : Pair). is_lt (key_cmp (get_or m i d).0 p.0)) m)) below
    ∙ behind_place m i d sorted.1 (omega arith)

-- a key in a range is not below its lower bound
not_below : (lo hi key : List ℕ) → is_between lo hi key ≡ true → is_lt (key_cmp key lo) ≡ false
not_below lo [] key in_it = not-true (is_lt (key_cmp key lo)) in_it
not_below lo (b ∷ hi) key in_it = not-true (is_lt (key_cmp key lo)) (and_parts (not (is_lt (key_cmp key lo))) (is_lt (key_cmp key (b ∷ hi))) in_it).0

-- the range from the key after one at a place is the range behind that place
range_behind : (m : Pairs) (lo hi : List ℕ) (i : ℕ) (d : Pair) → IsMap m → i < length (range m lo hi)
    → range m ((get_or (range m lo hi) i d).0 ++ 0 ∷ []) hi ≡ drop (suc i) (range m lo hi)
range_behind m lo hi i d sorted within =
    let k : List ℕ = (get_or (range m lo hi) i d).0 in
    let at = not_below lo hi k (filter_passes (λ (p : Pair). is_between lo hi p.0) m i d within) in
    picks_both (λ p. is_between lo hi p.0) (λ p. is_lt (key_cmp k p.0)) (λ p. is_between (k ++ 0 ∷ []) hi p.0) (λ e. between_next lo hi k e.0 at) m
    ∙ behind_place (range m lo hi) i d (filter_keeps_map (λ p. is_between lo hi p.0) m sorted) within

-- what is left behind a page is what it left
pub left_behind : (m : Pairs) (from : Option (List ℕ)) (hi : List ℕ) (limit : ℕ) (told : Pairs) (more : Bool) → IsMap m → 1 ≤ limit
    → IsPageOf (range_left m from hi) limit told more → range_left m (goes_on from more told) hi ≡ drop limit (range_left m from hi)
left_behind m None hi zero told more sorted some page = refl
left_behind m None hi (suc limit) told more sorted some page = refl
left_behind m (Some lo) hi limit told false sorted some page =
    sym (drop_all limit (range m lo hi) (ltb-false limit (length (range m lo hi)) (sym page.more_is)))
left_behind m (Some lo) hi zero told true sorted some page = absurd (omega arith)
left_behind m (Some lo) hi (suc i) told true sorted some page =
    let within : suc i < length (range m lo hi) = ltb-true (suc i) (length (range m lo hi)) (sym page.more_is) in
    let long : length told ≡ suc i = ap (λ (x : Pairs). length x) page.pairs_are ∙ length-take-le (suc i) (range m lo hi) (omega arith) in
    let last : length told - 1 ≡ i = omega arith in
    let last_key : (get_or told (length told - 1) ([], [])).0 ≡ (get_or (range m lo hi) i ([], [])).0 =
    (λ j. (get_or (page.pairs_are j) (last j) ([], [])).0)
    ∙ ap (λ (p : Pair). p.0) (get_or-take (suc i) (range m lo hi) i ([], []) (omega arith)) in
    ap (λ n. range m (cond (ltb 0 n) (behind_told told) lo) hi) long
    ∙ ap (λ b. range m (cond b (behind_told told) lo) hi) (lt-ltb 0 (suc i) (omega arith))
    ∙ ap (λ (k : List ℕ). range m (k ++ 0 ∷ []) hi) last_key
    ∙ range_behind m lo hi i ([], []) sorted (omega arith)

-- a page tells the first pairs of what a cursor has left, and it goes on behind them
pub next_told : (m : Pairs) (c : OpenCursor) (limit : ℕ) (told : Pairs) (more : Bool) → IsMap m → 1 ≤ limit
    → IsPageOf (pairs_left m c) limit told more → TellsNext m c limit told more
next_told m c limit told more sorted some page = record { page = page; left = left_behind m c.from c.hi limit told more sorted some page }
