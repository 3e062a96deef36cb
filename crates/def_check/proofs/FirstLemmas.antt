-- The first breach of a state, rule by rule, and children below a horizon.
use Rattle.std.proofs.Common.{◌≡◌, ◌≤◌, ◌+◌, ℕ, zero, suc, Bool, true, false, cond, eqb, ltb, ◌&&◌, inl, inr, List, [], ◌∷◌, ◌++◌, length, Option, None, Some, refl, sym, ap, ◌∙◌, arith, append-nil, append_assoc, true≢false}
use Rattle.std.specs.List.{flat_map, fold, slice_get, find, range_with_len}
use Rattle.std.specs.Option.{option_or, option_map_or}
use Rattle.std.proofs.lemmas.Bool.{lt-ltb, ltb-true}
use Rattle.strat_base.specs.Tree.{parent_of}
use Rattle.strat_base.proofs.ListFacts.{Among, any_among, any_from, find_some, find_none, among_range, range_among}
use Rattle.strat_base.proofs.ResultFacts.{option_cases}
use Rattle.def_split.proofs.ListLemmas.{bool_same}
use Rattle.def_state.specs.Breach.{Breach, breaches}
use Rattle.def_state.specs.Sound.{has_child_below}
use Rattle.def_state.specs.State.{State, versions_of, is_living}
use Rattle.def_check.specs.Firsts.{by_rule, first_in, first_child}

pub first_joined : {A : Type 0} (xs ys : List A) → slice_get (xs ++ ys) 0 ≡ option_or (slice_get xs 0) (slice_get ys 0)
first_joined [] ys = refl
first_joined (x ∷ xs) ys = refl

-- of what is made of each item, the first is that of the items before, or else of the last
pub first_grown : {A B : Type 0} (f : A → List B) (xs : List A) (x : A) → slice_get (flat_map f (xs ++ x ∷ [])) 0 ≡ option_or (slice_get (flat_map f xs) 0) (slice_get (f x) 0)
first_grown f [] x = first_joined (f x) [] ∙ or_none (slice_get (f x) 0)
  where
    or_none : {A : Type 0} (o : Option A) → option_or o None ≡ o
    or_none None = refl
    or_none (Some y) = refl
first_grown {B = B} f (y ∷ xs) x =
    first_joined (f y) (flat_map f (xs ++ x ∷ []))
    ∙ ap (λ (o : Option B). option_or (slice_get (f y) 0) o) (first_grown f xs x)
    ∙ or_assoc (slice_get (f y) 0) (slice_get (flat_map f xs) 0) (slice_get (f x) 0)
    ∙ ap (λ (o : Option B). option_or o (slice_get (f x) 0)) (sym (first_joined (f y) (flat_map f xs)))
  where
    or_assoc : {A : Type 0} (o p q : Option A) → option_or o (option_or p q) ≡ option_or (option_or o p) q
    or_assoc None p q = refl
    or_assoc (Some a) p q = refl

first_flat : {A : Type 0} (lists : List (List A)) → slice_get (flat_map (λ xs. xs) lists) 0 ≡ first_in lists
first_flat [] = refl
first_flat {A} (xs ∷ lists) = first_joined xs (flat_map (λ ys. ys) lists) ∙ ap (λ (o : Option A). option_or (slice_get xs 0) o) (first_flat lists)

-- lists that are joined one after another
joined_on : {A : Type 0} (before : List A) (lists : List (List A)) → fold (λ xs ys. xs ++ ys) before lists ≡ before ++ flat_map (λ xs. xs) lists
joined_on before [] = sym (append-nil before)
joined_on before (xs ∷ lists) = joined_on (before ++ xs) lists ∙ append_assoc before xs (flat_map (λ ys. ys) lists)

pub first_of_rules : (s : State) → slice_get (breaches s) 0 ≡ first_in (by_rule s)
first_of_rules s = go (by_rule s)
  where
    go : (lists : List (List Breach)) → slice_get (fold (λ xs ys. xs ++ ys) [] lists) 0 ≡ first_in lists
    go lists = ap (λ (xs : List Breach). slice_get xs 0) (joined_on [] lists) ∙ first_flat lists

-- what a search in numbers from 0 on finds is the least
least_found : (p : ℕ → Bool) (a n c d : ℕ) → find p (range_with_len a n) ≡ Some c → Among d (range_with_len a n) → p d ≡ true → c ≤ d
least_found p a zero c d is among passes = absurd among
least_found p a (suc n) c d is among passes = go (λ found there. least_found p (a + 1) n c d found there passes) (p a) refl is among
  where
    go : (find p (range_with_len (a + 1) n) ≡ Some c → Among d (range_with_len (a + 1) n) → c ≤ d) → (b : Bool) → p a ≡ b → cond b (Some a) (find p (range_with_len (a + 1) n)) ≡ Some c → Among d (a ∷ range_with_len (a + 1) n) → c ≤ d
    go rest true at found (inl here) = let same : a ≡ c = cc in omega (arith, same, here)
    go rest true at found (inr there) = let same : a ≡ c = cc in let low = (range_among (a + 1) n d there).0 in omega (arith, same, low)
    go rest false at found (inl here) = absurd (true≢false (sym passes ∙ ap p here ∙ at))
    go rest false at found (inr there) = rest found there

-- a version has a child below a horizon just where its first one is below it
pub child_below : (s : State) (h v : ℕ) → h ≤ length (versions_of s) → has_child_below s h v ≡ option_map_or (λ c. ltb c h) (first_child s v) false
child_below s h v known =
    elim (option_cases (first_child s v)) [
      | inl none ↦
          bool_same (has_child_below s h v) false
          (λ any.
          let found = any_among is_child (range_with_len 0 h) any in
          let low = range_among 0 h found.0 found.1 in
          sym (find_none is_child (range_with_len 0 (length (versions_of s))) found.0 none (among_range 0 (length (versions_of s)) found.0 (omega arith) (omega (arith, low.1, known)))) ∙ found.2)
          (λ no'. absurd (cc))
          ∙ sym (ap (λ (o : Option ℕ). option_map_or (λ c. ltb c h) o false) none)
      | inr some ↦
          let at = find_some is_child (range_with_len 0 (length (versions_of s))) some.0 some.1 in
          bool_same (has_child_below s h v) (ltb some.0 h)
          (λ any.
          let found = any_among is_child (range_with_len 0 h) any in
          let low = range_among 0 h found.0 found.1 in
          let least = least_found is_child 0 (length (versions_of s)) some.0 found.0 some.1 (among_range 0 (length (versions_of s)) found.0 (omega arith) (omega (arith, low.1, known))) found.2 in
          lt-ltb some.0 h (omega (arith, least, low.1)))
          (λ below. any_from is_child some.0 (range_with_len 0 h) (among_range 0 h some.0 (omega arith) (let low = ltb-true some.0 h below in omega (arith, low))) at.1)
          ∙ sym (ap (λ (o : Option ℕ). option_map_or (λ c. ltb c h) o false) some.1)
    ]
  where
    is_child : ℕ → Bool
    is_child c = option_map_or (λ p. eqb p v) (parent_of (versions_of s) c) false && is_living s c
