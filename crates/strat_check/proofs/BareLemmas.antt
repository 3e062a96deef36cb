-- Lists of versions that nothing hides yet: their order, their places, and one in the place of others.
use Rattle.std.proofs.Common.{◌≡◌, ◌<◌, ◌≤◌, ◌+◌, ◌-◌, ℕ, zero, suc, Bool, true, false, cond, eqb, ltb, leb, ◌&&◌, ◌||◌, get_or, take, drop, inl, inr, List, [], ◌∷◌, ◌++◌, length, refl, sym, ap, ◌∙◌, subst, arith}
use Rattle.std.specs.List.{list_all, sum_by}
use Rattle.std.specs.List.Sorted.{IsPartitionedBy, IsPartitionPoint}
use Rattle.std.proofs.lemmas.Bool.{cases_Bool, and_parts, and_from, ltb-true, lt-ltb, leb-true, leb-false, le-leb, eqb-true, false_from_ne_true}
use Rattle.std.proofs.lemmas.List.{take-append-drop, drop-drop, take_rest}
use Rattle.std.proofs.lemmas.List.Folds.{list_all-append, list_any-append}
use Rattle.std.proofs.lemmas.List.Sums.{sum_by-cons}
use Rattle.strat_base.proofs.ListFacts.{Among, any_among, all_at, all_from, among_left, among_right, among_split}
use Rattle.strat_check.specs.declared.bare.Bare.{Bare}
use Rattle.strat_check.specs.Bares.{are_bare_below, are_in_order, is_bare, is_place_of, replaced}

pub among_take : {X : Type 0} (n : ℕ) (xs : List X) (x : X) → Among x (take n xs) → Among x xs
among_take {X} n xs x among = let P : List X → Type 0 = Among x in subst P (take-append-drop n xs) (among_left (take n xs) (drop n xs) x among)

pub among_drop : {X : Type 0} (n : ℕ) (xs : List X) (x : X) → Among x (drop n xs) → Among x xs
among_drop {X} n xs x among = let P : List X → Type 0 = Among x in subst P (take-append-drop n xs) (among_right (take n xs) (drop n xs) x among)

pub among_at : {X : Type 0} (xs : List X) (i : ℕ) (d : X) → i < length xs → Among (get_or xs i d) xs
among_at [] i d lt = absurd (omega arith)
among_at (x ∷ xs) zero d lt = inl refl
among_at (x ∷ xs) (suc i) d lt = inr (among_at xs i d (omega arith))

all_part : {X : Type 0} (p : X → Bool) (n : ℕ) (xs : List X) → list_all p xs ≡ true → list_all p (take n xs) ≡ true
all_part p n xs all = all_from p (take n xs) (λ x among. all_at p x xs all (among_take n xs x among))

all_rest : {X : Type 0} (p : X → Bool) (n : ℕ) (xs : List X) → list_all p xs ≡ true → list_all p (drop n xs) ≡ true
all_rest p n xs all = all_from p (drop n xs) (λ x among. all_at p x xs all (among_drop n xs x among))

all_before : {X : Type 0} (p : X → Bool) (xs : List X) (n : ℕ) → n ≤ length xs → ((k : ℕ) (d : X) → k < n → p (get_or xs k d) ≡ true) → list_all p (take n xs) ≡ true
all_before p xs zero le each = refl
all_before p [] (suc n) le each = refl
all_before p (x ∷ xs) (suc n) le each = and_from (p x) (list_all p (take n xs)) (each 0 x (omega arith)) (all_before p xs n (omega arith) (λ k d lt. each (suc k) d (omega arith)))

all_behind : {X : Type 0} (p : X → Bool) (xs : List X) (n : ℕ) → ((k : ℕ) (d : X) → n ≤ k → k < length xs → p (get_or xs k d) ≡ true) → list_all p (drop n xs) ≡ true
all_behind p [] zero each = refl
all_behind p [] (suc n) each = refl
all_behind p (x ∷ xs) zero each = and_from (p x) (list_all p xs) (each 0 x (omega arith) (omega arith)) (all_behind p xs 0 (λ k d le lt. each (suc k) d (omega arith) (omega arith)))
all_behind p (x ∷ xs) (suc n) each = all_behind p xs n (λ k d le lt. each (suc k) d (omega arith) (omega arith))

-- versions below n stay so

pub below_replaced : (n : ℕ) (bare : List Bare) (from to : ℕ) (b : Bare) → are_bare_below n bare ≡ true → b.version < n → are_bare_below n (replaced bare from to b) ≡ true
below_replaced n bare from to b below lt =
    list_all-append (λ (c : Bare). ltb c.version n) (take from bare) (b ∷ drop to bare)
    ∙ and_from (are_bare_below n (take from bare)) (ltb b.version n && are_bare_below n (drop to bare)) (all_part (λ (c : Bare). ltb c.version n) from bare below)
    (and_from (ltb b.version n) (are_bare_below n (drop to bare)) (lt-ltb b.version n lt) (all_rest (λ (c : Bare). ltb c.version n) to bare below))

pub below_part : (n : ℕ) (bare : List Bare) (from m : ℕ) → are_bare_below n bare ≡ true → are_bare_below n (take m (drop from bare)) ≡ true
below_part n bare from m below = all_part (λ (c : Bare). ltb c.version n) m (drop from bare) (all_rest (λ (c : Bare). ltb c.version n) from bare below)

pub below_at : (n : ℕ) (bare : List Bare) (i : ℕ) (d : Bare) → are_bare_below n bare ≡ true → i < length bare → (get_or bare i d).version < n
below_at n bare i d below lt = ltb-true (get_or bare i d).version n (all_at (λ (c : Bare). ltb c.version n) (get_or bare i d) bare below (among_at bare i d lt))

-- their order

order_at : (bare : List Bare) (j k : ℕ) (d : Bare) → are_in_order bare ≡ true → j ≤ k → k < length bare → (get_or bare k d).start ≤ (get_or bare j d).start
order_at [] j k d ordered le lt = absurd (omega arith)
order_at (x ∷ bare) zero zero d ordered le lt = omega arith
order_at (x ∷ bare) zero (suc k) d ordered le lt =
    let parts = and_parts (list_all (λ c. ltb c.start x.start) bare) (are_in_order bare) ordered in
    let less : (get_or bare k d).start < x.start = ltb-true (get_or bare k d).start x.start (all_at (λ (c : Bare). ltb c.start x.start) (get_or bare k d) bare parts.0 (among_at bare k d (omega arith))) in
    omega arith
order_at (x ∷ bare) (suc j) zero d ordered le lt = absurd (omega arith)
order_at (x ∷ bare) (suc j) (suc k) d ordered le lt =
    order_at bare j k d (and_parts (list_all (λ c. ltb c.start x.start) bare) (are_in_order bare) ordered).1 (omega arith) (omega arith)

pub order_part : (n : ℕ) (bare : List Bare) → are_in_order bare ≡ true → are_in_order (take n bare) ≡ true
order_part zero bare ordered = refl
order_part (suc n) [] ordered = refl
order_part (suc n) (x ∷ bare) ordered =
    let parts = and_parts (list_all (λ c. ltb c.start x.start) bare) (are_in_order bare) ordered in
    and_from (list_all (λ c. ltb c.start x.start) (take n bare)) (are_in_order (take n bare)) (all_part (λ (c : Bare). ltb c.start x.start) n bare parts.0) (order_part n bare parts.1)

pub order_rest : (n : ℕ) (bare : List Bare) → are_in_order bare ≡ true → are_in_order (drop n bare) ≡ true
order_rest zero bare ordered = ordered
order_rest (suc n) [] ordered = refl
order_rest (suc n) (x ∷ bare) ordered = order_rest n bare (and_parts (list_all (λ c. ltb c.start x.start) bare) (are_in_order bare) ordered).1

order_joined : (xs : List Bare) (b : Bare) (ys : List Bare) → are_in_order xs ≡ true → are_in_order ys ≡ true → ((c : Bare) → Among c xs → b.start < c.start) → ((c : Bare) → Among c ys → c.start < b.start)
    → are_in_order (xs ++ b ∷ ys) ≡ true
order_joined [] b ys left right high low =
    and_from (list_all (λ c. ltb c.start b.start) ys) (are_in_order ys) (all_from (λ (c : Bare). ltb c.start b.start) ys (λ c among. lt-ltb c.start b.start (low c among))) right
order_joined (x ∷ xs) b ys left right high low =
    let parts = and_parts (list_all (λ c. ltb c.start x.start) xs) (are_in_order xs) left in
    let first : b.start < x.start = high x (inl refl) in
    and_from (list_all (λ c. ltb c.start x.start) (xs ++ b ∷ ys)) (are_in_order (xs ++ b ∷ ys))
    (all_from (λ (c : Bare). ltb c.start x.start) (xs ++ b ∷ ys) (λ c among. elim (among_split xs (b ∷ ys) c among) [
      | inl here ↦ all_at (λ (e : Bare). ltb e.start x.start) c xs parts.0 here
      | inr (inl same) ↦ let start = ap (λ (e : Bare). e.start) same in lt-ltb c.start x.start (omega (arith, start))
      | inr (inr there) ↦ let less = low c there in lt-ltb c.start x.start (omega arith)
    ]))
    (order_joined xs b ys parts.1 right (λ c among. high c (inr among)) low)

-- where a search by halving ends

pub bare_parted : (bare : List Bare) (number : ℕ) → are_in_order bare ≡ true → IsPartitionedBy (λ (b : Bare). leb number b.start) bare
bare_parted bare number ordered i j d le lt e =
    let later : number ≤ (get_or bare j d).start = leb-true number (get_or bare j d).start e in
    let down : (get_or bare j d).start ≤ (get_or bare i d).start = order_at bare i j d ordered le lt in
    le-leb number (get_or bare i d).start (omega arith)

pub place_from_point : (bare : List Bare) (number at : ℕ) → at ≤ length bare → IsPartitionPoint (λ (b : Bare). leb number b.start ≡ true) (λ (b : Bare). leb number b.start ≡ false) bare at → is_place_of bare number at ≡ true
place_from_point bare number at within point =
    and_from (list_all (λ (b : Bare). leb number b.start) (take at bare)) (list_all (λ (b : Bare). ltb b.start number) (drop at bare))
    (all_before (λ (b : Bare). leb number b.start) bare at within (λ k d lt. point.0 k d (omega arith) lt))
    (all_behind (λ (b : Bare). ltb b.start number) bare at (λ k d le lt. lt-ltb (get_or bare k d).start number (leb-false number (get_or bare k d).start (point.1 k d le lt))))

-- these have numbers from a start to below an end, those before them greater ones, and those behind them lower ones
pub record AreSpanned (start stop : ℕ) (bare : List Bare) (from to : ℕ) : Type 0 where
  pub le : from ≤ to
  pub high : (b : Bare) → Among b (take from bare) → stop ≤ b.start
  pub mid : (b : Bare) → Among b (take (to - from) (drop from bare)) → (start ≤ b.start) × (b.start < stop)
  pub low : (b : Bare) → Among b (drop to bare) → b.start < start

pub spanned : (start stop : ℕ) (bare : List Bare) (from n : ℕ) → is_place_of bare stop from ≡ true → is_place_of (take (length bare - from) (drop from bare)) start n ≡ true → AreSpanned start stop bare from (from + n)
spanned start stop bare from n first second =
    let outer = and_parts (list_all (λ (b : Bare). leb stop b.start) (take from bare)) (list_all (λ (b : Bare). ltb b.start stop) (drop from bare)) first in
    let rest : is_place_of (drop from bare) start n ≡ true = subst (λ (bs : List Bare). is_place_of bs start n ≡ true) (take_rest bare from) second in
    let inner = and_parts (list_all (λ (b : Bare). leb start b.start) (take n (drop from bare))) (list_all (λ (b : Bare). ltb b.start start) (drop n (drop from bare))) rest in
    let less : from + n - from ≡ n = omega arith in
    record {
      le = omega arith;
      high = λ b among. leb-true stop b.start (all_at (λ (c : Bare). leb stop c.start) b (take from bare) outer.0 among);
      mid = λ b among.
          let here : Among b (take n (drop from bare)) = subst (λ (k : ℕ). Among b (take k (drop from bare))) less among in
          (leb-true start b.start (all_at (λ (c : Bare). leb start c.start) b (take n (drop from bare)) inner.0 here), ltb-true b.start stop (all_at (λ (c : Bare). ltb c.start stop) b (drop from bare) outer.1 (among_take n (drop from bare) b here)));
      low = λ b among.
          let there : Among b (drop n (drop from bare)) = subst (λ (bs : List Bare). Among b bs) (sym (drop-drop n from bare)) among in
          ltb-true b.start start (all_at (λ (c : Bare). ltb c.start start) b (drop n (drop from bare)) inner.1 there);
    }

-- one in the place of others

pub order_replaced : (start stop : ℕ) (bare : List Bare) (from to : ℕ) (b : Bare) → are_in_order bare ≡ true → AreSpanned start stop bare from to → b.start ≡ start → start < stop → are_in_order (replaced bare from to b) ≡ true
order_replaced start stop bare from to b ordered spans is some =
    order_joined (take from bare) b (drop to bare) (order_part from bare ordered) (order_rest to bare ordered)
    (λ c among. let high = spans.high c among in omega (arith, is))
    (λ c among. let low = spans.low c among in omega (arith, is))

pub bare_replaced : (bare : List Bare) (from to : ℕ) (b : Bare) (v : ℕ) → is_bare (replaced bare from to b) v ≡ (is_bare (take from bare) v || (eqb b.version v || is_bare (drop to bare) v))
bare_replaced bare from to b v = list_any-append (λ (c : Bare). eqb c.version v) (take from bare) (b ∷ drop to bare)

pub bare_parts : (bare : List Bare) (from to : ℕ) (v : ℕ) → from ≤ to → is_bare bare v ≡ (is_bare (take from bare) v || (is_bare (take (to - from) (drop from bare)) v || is_bare (drop to bare) v))
bare_parts bare from to v le =
    let back : from + (to - from) ≡ to = omega arith in
    let inner : is_bare (drop from bare) v ≡ (is_bare (take (to - from) (drop from bare)) v || is_bare (drop to bare) v) =
    ap (λ (bs : List Bare). is_bare bs v) (sym (take-append-drop (to - from) (drop from bare)))
    ∙ list_any-append (λ (c : Bare). eqb c.version v) (take (to - from) (drop from bare)) (drop (to - from) (drop from bare))
    ∙ ap (λ (bs : List Bare). is_bare (take (to - from) (drop from bare)) v || is_bare bs v) (drop-drop (to - from) from bare ∙ ap (λ (k : ℕ). drop k bare) back) in
    ap (λ (bs : List Bare). is_bare bs v) (sym (take-append-drop from bare))
    ∙ list_any-append (λ (c : Bare). eqb c.version v) (take from bare) (drop from bare)
    ∙ ap (λ (x : Bool). is_bare (take from bare) v || x) inner

-- each number is told by its version, so no version stands twice
pub sum_once : (starts : List ℕ) (by v : ℕ) (bare : List Bare) → are_in_order bare ≡ true → ((b : Bare) → Among b bare → b.start ≡ get_or starts b.version 0)
    → sum_by (λ (b : Bare). cond (eqb b.version v) by 0) bare ≡ cond (is_bare bare v) by 0
sum_once starts by v [] ordered each = refl
sum_once starts by v (x ∷ bare) ordered each =
    let parts = and_parts (list_all (λ c. ltb c.start x.start) bare) (are_in_order bare) ordered in
    let whole = sum_by-cons (λ (b : Bare). cond (eqb b.version v) by 0) x bare in
    let rest = sum_once starts by v bare parts.1 (λ b among. each b (inr among)) in
    elim (cases_Bool (eqb x.version v)) [
      | inl here ↦
          let none : is_bare bare v ≡ false = false_from_ne_true (is_bare bare v) (λ again.
          let found = any_among (λ (c : Bare). eqb c.version v) bare again in
          let less : found.0.start < x.start = ltb-true found.0.start x.start (all_at (λ (c : Bare). ltb c.start x.start) found.0 bare parts.0 found.1) in
          let mine = each x (inl refl) in
          let other = each found.0 (inr found.1) in
          let same = ap (λ (w : ℕ). get_or starts w 0) (eqb-true x.version v here ∙ sym (eqb-true found.0.version v found.2)) in
          omega (arith, less, mine, other, same)) in
          let a = ap (λ (b : Bool). cond b by 0) here in
          let b = ap (λ (b : Bool). cond b by 0) none in
          let c = ap (λ (b : Bool). cond (b || is_bare bare v) by 0) here in
          omega (arith, whole, rest, a, b, c)
      | inr apart ↦
          let a = ap (λ (b : Bool). cond b by 0) apart in
          let c = ap (λ (b : Bool). cond (b || is_bare bare v) by 0) apart in
          omega (arith, whole, rest, a, c)
    ]
