-- Lists that are filtered, joined and labelled.
use Rattle.std.proofs.Common.{◌≡◌, ◌<◌, ◌≤◌, ◌+◌, ℕ, suc, zero, map, Bool, true, false, cond, eqb, ◌&&◌, ◌||◌, not, inl, inr, List, [], ◌∷◌, ◌++◌, length, filter, refl, sym, ap, ◌∙◌, subst, arith, true≢false}
use Rattle.std.specs.List.{list_all, flat_map, range_with_len}
use Rattle.std.specs.Ordering.{is_lt}
use Rattle.std.proofs.lemmas.Bool.{eqb-true, and_parts, and_from, not-true, not_from_false, false_from_ne_true}
use Rattle.strat_base.specs.Order.{entry_cmp}
use Rattle.strat_base.specs.Entries.{Entry, is_tagged, is_ascending}
use Rattle.def_state.specs.Level.{is_distinct}
use Rattle.strat_base.proofs.ListFacts.{Among, all_at, all_from, filter_among, among_split, among_flat, range_among}
use Rattle.def_state.proofs.LevelLemmas.{tagged_among, among_tagged}

-- two tests that imply each other are the same
pub bool_same : (a b : Bool) → (a ≡ true → b ≡ true) → (b ≡ true → a ≡ true) → a ≡ b
bool_same true true there back = refl
bool_same true false there back = sym (there refl)
bool_same false true there back = back refl
bool_same false false there back = refl

-- what is kept by one test and then by another is kept by both
pub filter_both : {X : Type 0} (t p r : X → Bool) (xs : List X) → ((x : X) → Among x xs → (t x && p x) ≡ r x) → filter p (filter t xs) ≡ filter r xs
filter_both t p r [] each = refl
filter_both t p r (x ∷ xs) each =
    let rest : filter p (filter t xs) ≡ filter r xs = filter_both t p r xs (λ y among. each y (inr among)) in
    elim (t x) as (λ b. (b && p x) ≡ r x → filter p (cond b (x ∷ filter t xs) (filter t xs)) ≡ cond (r x) (x ∷ filter r xs) (filter r xs)) [
      | true ↦ λ is i. cond (is i) (x ∷ rest i) (rest i)
      | false ↦ λ is. rest ∙ ap (λ (b : Bool). cond b (x ∷ filter r xs) (filter r xs)) is
    ] (each x (inl refl))

pub filter_same : {X : Type 0} (p q : X → Bool) (xs : List X) → ((x : X) → Among x xs → p x ≡ q x) → filter p xs ≡ filter q xs
filter_same p q [] each = refl
filter_same p q (x ∷ xs) each =
    let rest : filter p xs ≡ filter q xs = filter_same p q xs (λ y among. each y (inr among)) in
    λ i. cond (each x (inl refl) i) (x ∷ rest i) (rest i)

pub filter_none : {X : Type 0} (p : X → Bool) (xs : List X) → ((x : X) → Among x xs → p x ≡ false) → filter p xs ≡ []
filter_none p [] each = refl
filter_none p (x ∷ xs) each =
    ap (λ (b : Bool). cond b (x ∷ filter p xs) (filter p xs)) (each x (inl refl)) ∙ filter_none p xs (λ y among. each y (inr among))

pub filter_every : {X : Type 0} (p : X → Bool) (xs : List X) → ((x : X) → Among x xs → p x ≡ true) → filter p xs ≡ xs
filter_every p [] each = refl
filter_every {X} p (x ∷ xs) each =
    ap (λ (b : Bool). cond b (x ∷ filter p xs) (filter p xs)) (each x (inl refl)) ∙ ap (λ (ys : List X). x ∷ ys) (filter_every p xs (λ y among. each y (inr among)))

-- as many pass one of two tests as pass each, where none passes both
pub count_either : {X : Type 0} (a b : X → Bool) (xs : List X) → ((x : X) → Among x xs → a x ≡ true → b x ≡ true → ⊥)
    → length (filter (λ x. a x || b x) xs) ≡ length (filter a xs) + length (filter b xs)
count_either a b [] apart = refl
count_either a b (x ∷ xs) apart =
    let rest : length (filter (λ y. a y || b y) xs) ≡ length (filter a xs) + length (filter b xs) = count_either a b xs (λ y among. apart y (inr among)) in
    elim (a x) as (λ c. (c ≡ true → b x ≡ true → ⊥)
    → length (cond (c || b x) (x ∷ filter (λ y. a y || b y) xs) (filter (λ y. a y || b y) xs)) ≡ length (cond c (x ∷ filter a xs) (filter a xs)) + length (cond (b x) (x ∷ filter b xs) (filter b xs))) [
      | true ↦ λ both.
          elim (b x) as (λ d. (d ≡ true → ⊥) → suc (length (filter (λ y. a y || b y) xs)) ≡ suc (length (filter a xs)) + length (cond d (x ∷ filter b xs) (filter b xs))) [
            | true ↦ λ none. absurd (none refl)
            | false ↦ λ none. omega arith
          ] (both refl)
      | false ↦ λ both.
          elim (b x) as (λ d. length (cond d (x ∷ filter (λ y. a y || b y) xs) (filter (λ y. a y || b y) xs)) ≡ length (filter a xs) + length (cond d (x ∷ filter b xs) (filter b xs))) [
            | true ↦ omega arith
            | false ↦ rest
          ]
    ] (apart x (inl refl))

-- what passes one test passes another, so no fewer pass the other
pub filter_le : {X : Type 0} (p q : X → Bool) (xs : List X) → ((x : X) → Among x xs → p x ≡ true → q x ≡ true) → length (filter p xs) ≤ length (filter q xs)
filter_le p q [] more = omega arith
filter_le p q (x ∷ xs) more =
    let rest : length (filter p xs) ≤ length (filter q xs) = filter_le p q xs (λ y among. more y (inr among)) in
    elim (p x) as (λ b. (b ≡ true → q x ≡ true) → length (cond b (x ∷ filter p xs) (filter p xs)) ≤ length (cond (q x) (x ∷ filter q xs) (filter q xs))) [
      | true ↦ λ is. subst (λ (b : Bool). suc (length (filter p xs)) ≤ length (cond b (x ∷ filter q xs) (filter q xs))) (sym (is refl)) (omega arith)
      | false ↦ λ is.
          elim (q x) as (λ b. length (filter p xs) ≤ length (cond b (x ∷ filter q xs) (filter q xs))) [
            | true ↦ omega arith
            | false ↦ rest
          ]
    ] (more x (inl refl))

pub some_length : {X : Type 0} (xs : List X) (x : X) → Among x xs → 0 < length xs
some_length [] x among = absurd among
some_length (y ∷ ys) x among = omega arith

pub empty_length : {X : Type 0} (xs : List X) → ((x : X) → Among x xs → ⊥) → length xs ≡ 0
empty_length [] none = refl
empty_length (x ∷ xs) none = absurd (none x (inl refl))

pub map_among : {X Y : Type 0} (f : X → Y) (xs : List X) (y : Y) → Among y (map f xs) → (x : X) × Among x xs × (y ≡ f x)
map_among f [] y among = absurd among
map_among f (x ∷ xs) y (inl here) = (x, inl refl, here)
map_among f (x ∷ xs) y (inr there) = let found = map_among f xs y there in (found.0, inr found.1, found.2)

pub among_map : {X Y : Type 0} (f : X → Y) (xs : List X) (x : X) → Among x xs → Among (f x) (map f xs)
among_map f [] x among = absurd among
among_map f (y ∷ ys) x (inl here) = inl (ap f here)
among_map f (y ∷ ys) x (inr there) = inr (among_map f ys x there)

pub all_mapped : {X Y : Type 0} (p : Y → Bool) (f : X → Y) (xs : List X) → ((x : X) → Among x xs → p (f x) ≡ true) → list_all p (map f xs) ≡ true
all_mapped p f [] each = refl
all_mapped p f (x ∷ xs) each = and_from (p (f x)) (list_all p (map f xs)) (each x (inl refl)) (all_mapped p f xs (λ y among. each y (inr among)))

pub filter_ascending : (p : Entry → Bool) (entries : List Entry) → is_ascending entries ≡ true → is_ascending (filter p entries) ≡ true
filter_ascending p [] up = refl
filter_ascending p (e ∷ entries) up =
    let parts = and_parts (list_all (λ later. is_lt (entry_cmp e.key e.version later.key later.version)) entries) (is_ascending entries) up in
    elim (p e) as (λ b. is_ascending (cond b (e ∷ filter p entries) (filter p entries)) ≡ true) [
      | true ↦
          and_from (list_all (λ later. is_lt (entry_cmp e.key e.version later.key later.version)) (filter p entries)) (is_ascending (filter p entries))
          (all_from (λ later. is_lt (entry_cmp e.key e.version later.key later.version)) (filter p entries) (λ d among.
          all_at (λ later. is_lt (entry_cmp e.key e.version later.key later.version)) d entries parts.0 (filter_among p entries d among).0))
          (filter_ascending p entries parts.1)
      | false ↦ filter_ascending p entries parts.1
    ]

-- lists without a number twice

pub distinct_head : (v : ℕ) (vs : List ℕ) → is_distinct (v ∷ vs) ≡ true → Among v vs → ⊥
distinct_head v vs h among =
    let parts = and_parts (not (is_tagged vs v)) (is_distinct vs) h in
    true≢false (sym (among_tagged vs v among) ∙ not-true (is_tagged vs v) parts.0)

distinct_cons : (v : ℕ) (vs : List ℕ) → (Among v vs → ⊥) → is_distinct vs ≡ true → is_distinct (v ∷ vs) ≡ true
distinct_cons v vs none h =
    and_from (not (is_tagged vs v)) (is_distinct vs) (not_from_false (is_tagged vs v) (false_from_ne_true (is_tagged vs v) (λ tagged. none (tagged_among vs v tagged)))) h

pub distinct_tail : (v : ℕ) (vs : List ℕ) → is_distinct (v ∷ vs) ≡ true → is_distinct vs ≡ true
distinct_tail v vs h = (and_parts (not (is_tagged vs v)) (is_distinct vs) h).1

pub distinct_append : (xs ys : List ℕ) → is_distinct xs ≡ true → is_distinct ys ≡ true → ((v : ℕ) → Among v xs → Among v ys → ⊥) → is_distinct (xs ++ ys) ≡ true
distinct_append [] ys one two apart = two
distinct_append (x ∷ xs) ys one two apart =
    distinct_cons x (xs ++ ys)
    (λ among. elim (among_split xs ys x among) [ inl left ↦ distinct_head x xs one left | inr right ↦ apart x (inl refl) right ])
    (distinct_append xs ys (distinct_tail x xs one) two (λ v a b. apart v (inr a) b))

pub distinct_filter : (p : ℕ → Bool) (xs : List ℕ) → is_distinct xs ≡ true → is_distinct (filter p xs) ≡ true
distinct_filter p [] h = refl
distinct_filter p (x ∷ xs) h =
    elim (p x) as (λ b. is_distinct (cond b (x ∷ filter p xs) (filter p xs)) ≡ true) [
      | true ↦ distinct_cons x (filter p xs) (λ among. distinct_head x xs h (filter_among p xs x among).0) (distinct_filter p xs (distinct_tail x xs h))
      | false ↦ distinct_filter p xs (distinct_tail x xs h)
    ]

pub distinct_range : (a n : ℕ) → is_distinct (range_with_len a n) ≡ true
distinct_range a zero = refl
distinct_range a (suc n) =
    distinct_cons a (range_with_len (a + 1) n) (λ among. let found = range_among (a + 1) n a among in absurd (omega (arith, found.0))) (distinct_range (a + 1) n)

-- those with one label, for each of some labels in turn
pub distinct_labelled : (label : ℕ → ℕ) (vs qs : List ℕ) → is_distinct vs ≡ true → is_distinct qs ≡ true → is_distinct (flat_map (λ q. filter (λ v. eqb (label v) q) vs) qs) ≡ true
distinct_labelled label vs [] one two = refl
distinct_labelled label vs (q ∷ qs) one two =
    distinct_append (filter (λ v. eqb (label v) q) vs) (flat_map (λ r. filter (λ v. eqb (label v) r) vs) qs)
    (distinct_filter (λ v. eqb (label v) q) vs one)
    (distinct_labelled label vs qs one (distinct_tail q qs two))
    (λ v a b.
    let here = filter_among (λ w. eqb (label w) q) vs v a in
    let found = among_flat (λ r. filter (λ w. eqb (label w) r) vs) qs v b in
    let there = filter_among (λ w. eqb (label w) found.0) vs v found.2 in
    let same : q ≡ found.0 = sym (eqb-true (label v) q here.1) ∙ eqb-true (label v) found.0 there.1 in
    distinct_head q qs two (subst (λ (x : ℕ). Among x qs) (sym same) found.1))
