-- Elements of a list, and what tests and searches say of them.
use Rattle.std.proofs.Common.{◌≡◌, ◌≤◌, ◌<◌, ◌+◌, ℕ, zero, suc, map, get_or, length, IsSome, Bool, true, false, cond, ◌&&◌, ◌||◌, Option, ◌⊎◌, inl, inr, List, [], ◌∷◌, ◌++◌, reverse, filter, Some, None, refl, sym, ap, ◌∙◌, subst, true≢false, arith}
use Rattle.std.specs.List.{list_any, list_all, find, flat_map, fold, filter_map, cons_option, slice_get, range_with_len, AllByRecursion}
use Rattle.std.proofs.lemmas.Bool.{or_cases, or_left, or_right, and_parts, and_from, cases_Bool, cases_eq}
use Rattle.std.proofs.lemmas.List.{reverse-append}

-- x is an element of the list
abbrev pub Among : {X : Type 0} → X → List X → Type 0
Among x [] = ⊥
Among x (y ∷ ys) = (x ≡ y) ⊎ Among x ys

-- an element that passes, as a test of the whole list found it
pub any_among : {X : Type 0} (p : X → Bool) (xs : List X) → list_any p xs ≡ true → (x : X) × Among x xs × (p x ≡ true)
any_among p [] e = absurd (true≢false (sym e))
any_among p (x ∷ xs) e =
    elim (or_cases (p x) (list_any p xs) e) [
      | inl here ↦ (x, inl refl, here)
      | inr there ↦ let found = any_among p xs there in (found.0, inr found.1, found.2)
    ]

pub any_from : {X : Type 0} (p : X → Bool) (x : X) (xs : List X) → Among x xs → p x ≡ true → list_any p xs ≡ true
any_from p x [] among e = absurd among
any_from p x (y ∷ ys) (inl here) e = or_left (p y) (list_any p ys) (ap p (sym here) ∙ e)
any_from p x (y ∷ ys) (inr there) e = or_right (p y) (list_any p ys) (any_from p x ys there e)

pub none_at : {X : Type 0} (p : X → Bool) (x : X) (xs : List X) → list_any p xs ≡ false → Among x xs → p x ≡ false
none_at p x xs e among = elim (cases_Bool (p x)) [ inl yes' ↦ absurd (true≢false (sym (any_from p x xs among yes') ∙ e)) | inr no' ↦ no' ]

pub all_at : {X : Type 0} (p : X → Bool) (x : X) (xs : List X) → list_all p xs ≡ true → Among x xs → p x ≡ true
all_at p x [] e among = absurd among
all_at p x (y ∷ ys) e (inl here) = ap p here ∙ (and_parts (p y) (list_all p ys) e).0
all_at p x (y ∷ ys) e (inr there) = all_at p x ys (and_parts (p y) (list_all p ys) e).1 there

pub all_from : {X : Type 0} (p : X → Bool) (xs : List X) → ((x : X) → Among x xs → p x ≡ true) → list_all p xs ≡ true
all_from p [] each = refl
all_from p (x ∷ xs) each = and_from (p x) (list_all p xs) (each x (inl refl)) (all_from p xs (λ y among. each y (inr among)))

-- what a search found passes and stands in the list
pub find_some : {X : Type 0} (p : X → Bool) (xs : List X) (x : X) → find p xs ≡ Some x → Among x xs × (p x ≡ true)
find_some p [] x e = absurd (cc)
find_some p (y ∷ ys) x e =
    elim (p y) as (λ b. p y ≡ b → Among x (y ∷ ys) × (p x ≡ true)) [
      | true ↦ λ is. let same : x ≡ y = cc in (inl same, ap p same ∙ is)
      | false ↦ λ is. let rest : find p ys ≡ Some x = cc in let found = find_some p ys x rest in (inr found.0, found.1)
    ] refl

pub find_none : {X : Type 0} (p : X → Bool) (xs : List X) (x : X) → find p xs ≡ None → Among x xs → p x ≡ false
find_none p [] x e among = absurd among
find_none p (y ∷ ys) x e among =
    elim (p y) as (λ b. p y ≡ b → p x ≡ false) [
      | true ↦ λ is. absurd (cc)
      | false ↦ λ is. let rest : find p ys ≡ None = cc in elim among [ inl here ↦ ap p here ∙ is | inr there ↦ find_none p ys x rest there ]
    ] refl

pub among_left : {X : Type 0} (xs ys : List X) (x : X) → Among x xs → Among x (xs ++ ys)
among_left [] ys x among = absurd among
among_left (y ∷ xs) ys x (inl here) = inl here
among_left (y ∷ xs) ys x (inr there) = inr (among_left xs ys x there)

pub among_right : {X : Type 0} (xs ys : List X) (x : X) → Among x ys → Among x (xs ++ ys)
among_right [] ys x among = among
among_right (y ∷ xs) ys x among = inr (among_right xs ys x among)

pub among_split : {X : Type 0} (xs ys : List X) (x : X) → Among x (xs ++ ys) → Among x xs ⊎ Among x ys
among_split [] ys x among = inr among
among_split (y ∷ xs) ys x (inl here) = inl (inl here)
among_split (y ∷ xs) ys x (inr there) = elim (among_split xs ys x there) [ inl first ↦ inl (inr first) | inr second ↦ inr second ]

pub among_flat : {X Y : Type 0} (f : X → List Y) (xs : List X) (y : Y) → Among y (flat_map f xs) → (x : X) × Among x xs × Among y (f x)
among_flat f [] y among = absurd among
among_flat f (x ∷ xs) y among =
    elim (among_split (f x) (flat_map f xs) y among) [
      | inl here ↦ (x, inl refl, here)
      | inr there ↦ let found = among_flat f xs y there in (found.0, inr found.1, found.2)
    ]

pub among_in_flat : {X Y : Type 0} (f : X → List Y) (xs : List X) (x : X) (y : Y) → Among x xs → Among y (f x) → Among y (flat_map f xs)
among_in_flat f [] x y among there = absurd among
among_in_flat {Y = Y} f (z ∷ zs) x y (inl here) there = among_left (f z) (flat_map f zs) y (subst (λ w. Among y (f w)) here there)
among_in_flat f (z ∷ zs) x y (inr among) there = among_right (f z) (flat_map f zs) y (among_in_flat f zs x y among there)

pub among_filter : {X : Type 0} (p : X → Bool) (xs : List X) (x : X) → Among x xs → p x ≡ true → Among x (filter p xs)
among_filter p [] x among passes = absurd among
among_filter p (y ∷ ys) x among passes =
    elim (p y) as (λ b. p y ≡ b → Among x (cond b (y ∷ filter p ys) (filter p ys))) [
      | true ↦ λ is. elim among [ inl same ↦ inl same | inr there ↦ inr (among_filter p ys x there passes) ]
      | false ↦ λ is. elim among [ inl same ↦ absurd (true≢false (sym passes ∙ ap p same ∙ is)) | inr there ↦ among_filter p ys x there passes ]
    ] refl

pub filter_among : {X : Type 0} (p : X → Bool) (xs : List X) (x : X) → Among x (filter p xs) → Among x xs × (p x ≡ true)
filter_among p [] x among = absurd among
filter_among p (y ∷ ys) x among =
    elim (p y) as (λ b. p y ≡ b → Among x (cond b (y ∷ filter p ys) (filter p ys)) → Among x (y ∷ ys) × (p x ≡ true)) [
      | true ↦ λ is here. elim here [ inl same ↦ (inl same, ap p same ∙ is) | inr there ↦ let found = filter_among p ys x there in (inr found.0, found.1) ]
      | false ↦ λ is there. let found = filter_among p ys x there in (inr found.0, found.1)
    ] refl among

pub each_of : {X : Type 0} (P : X → Type 0) (xs : List X) (x : X) → AllByRecursion P xs → Among x xs → P x
each_of P [] x each among = absurd among
each_of P (y ∷ ys) x each (inl here) = subst P (sym here) each.0
each_of P (y ∷ ys) x each (inr there) = each_of P ys x each.1 there

pub among_reverse : {X : Type 0} (xs : List X) (x : X) → Among x xs → Among x (reverse xs)
among_reverse [] x among = absurd among
among_reverse (y ∷ ys) x (inl here) = subst (Among x) (sym (reverse-append (y ∷ []) ys)) (among_right (reverse ys) (y ∷ []) x (inl here))
among_reverse (y ∷ ys) x (inr there) = subst (Among x) (sym (reverse-append (y ∷ []) ys)) (among_left (reverse ys) (y ∷ []) x (among_reverse ys x there))

pub among_range : (a n c : ℕ) → a ≤ c → c < a + n → Among c (range_with_len a n)
among_range a zero c le lt = absurd (omega arith)
among_range a (suc n) c le lt =
    elim (cases_eq c a) [
      | inl here ↦ inl here
      | inr apart ↦ inr (among_range (a + 1) n c (omega arith) (omega arith))
    ]

pub each_from : {X : Type 0} (P : X → Type 0) (xs : List X) → ((x : X) → Among x xs → P x) → AllByRecursion P xs
each_from P [] each = tt
each_from P (x ∷ xs) each = (each x (inl refl), each_from P xs (λ y among. each y (inr among)))

pub empty_parts : {X : Type 0} (xs ys : List X) → xs ++ ys ≡ [] → (xs ≡ []) × (ys ≡ [])
empty_parts [] ys e = (refl, e)
empty_parts (x ∷ xs) ys e = absurd (cc)

pub empty_both : {X : Type 0} (xs ys : List X) → xs ≡ [] → ys ≡ [] → xs ++ ys ≡ []
empty_both [] ys e f = f
empty_both (x ∷ xs) ys e f = absurd (cc)

-- what is made of each element is nothing
pub flat_empty : {X Y : Type 0} (f : X → List Y) (xs : List X) → ((x : X) → Among x xs → f x ≡ []) → flat_map f xs ≡ []
flat_empty f [] each = refl
flat_empty f (x ∷ xs) each = empty_both (f x) (flat_map f xs) (each x (inl refl)) (flat_empty f xs (λ y among. each y (inr among)))

pub empty_each : {X Y : Type 0} (f : X → List Y) (xs : List X) (x : X) → flat_map f xs ≡ [] → Among x xs → f x ≡ []
empty_each f [] x e among = absurd among
empty_each f (y ∷ ys) x e (inl here) = ap f here ∙ (empty_parts (f y) (flat_map f ys) e).0
empty_each f (y ∷ ys) x e (inr there) = empty_each f ys x (empty_parts (f y) (flat_map f ys) e).1 there

pub range_among : (a n c : ℕ) → Among c (range_with_len a n) → (a ≤ c) × (c < a + n)
range_among a zero c among = absurd among
range_among a (suc n) c (inl here) = (omega arith, omega arith)
range_among a (suc n) c (inr there) = let found = range_among (a + 1) n c there in (omega (arith, found.0), omega (arith, found.1))

-- tests that agree on a list find the same
pub any_same : {X : Type 0} (p q : X → Bool) (xs : List X) → ((x : X) → Among x xs → p x ≡ q x) → list_any p xs ≡ list_any q xs
any_same p q [] each = refl
any_same p q (x ∷ xs) each = λ i. each x (inl refl) i || any_same p q xs (λ y among. each y (inr among)) i

pub all_same : {X : Type 0} (p q : X → Bool) (xs : List X) → ((x : X) → Among x xs → p x ≡ q x) → list_all p xs ≡ list_all q xs
all_same p q [] each = refl
all_same p q (x ∷ xs) each = λ i. each x (inl refl) i && all_same p q xs (λ y among. each y (inr among)) i

pub map_same : {X Y : Type 0} (f g : X → Y) (xs : List X) → ((x : X) → Among x xs → f x ≡ g x) → map f xs ≡ map g xs
map_same f g [] each = refl
map_same f g (x ∷ xs) each = λ i. each x (inl refl) i ∷ map_same f g xs (λ y among. each y (inr among)) i

pub get_among : {X : Type 0} (xs : List X) (i : ℕ) (x : X) → slice_get xs i ≡ Some x → Among x xs
get_among [] i x e = absurd (cc)
get_among (y ∷ ys) zero x e = inl (cc)
get_among (y ∷ ys) (suc i) x e = inr (get_among ys i x e)

pub fold-push : {X Y : Type 0} (f : Y → X → Y) (a : Y) (xs : List X) (x : X) → fold f a (xs ++ x ∷ []) ≡ f (fold f a xs) x
fold-push f a [] x = refl
fold-push f a (y ∷ ys) x = fold-push f (f a y) ys x

pub filter_map-append : {X Y : Type 0} (f : X → Option Y) (xs ys : List X) → filter_map f (xs ++ ys) ≡ filter_map f xs ++ filter_map f ys
filter_map-append f [] ys = refl
filter_map-append {Y = Y} f (x ∷ xs) ys =
    elim (f x) as (λ o. cons_option o (filter_map f (xs ++ ys)) ≡ cons_option o (filter_map f xs) ++ filter_map f ys) [
      | None ↦ filter_map-append f xs ys
      | Some y ↦ ap (λ (r : List Y). y ∷ r) (filter_map-append f xs ys)
    ]

-- an index below a list's length has an element
pub get_some : {X : Type 0} (xs : List X) (i : ℕ) → i < length xs → IsSome (slice_get xs i)
get_some [] i lt = absurd (omega arith)
get_some (x ∷ xs) zero lt = refl
get_some (x ∷ xs) (suc i) lt = get_some xs i (omega arith)

pub get_is : {X : Type 0} (xs : List X) (i : ℕ) (x d : X) → slice_get xs i ≡ Some x → get_or xs i d ≡ x
get_is [] i x d e = absurd (cc)
get_is (y ∷ ys) zero x d e = cc
get_is (y ∷ ys) (suc i) x d e = get_is ys i x d e
