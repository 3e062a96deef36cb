-- Numbers that are new to a set, one after the other.
use Rattle.std.proofs.Common.{◌≡◌, ◌<◌, ◌+◌, ℕ, Bool, true, false, cond, eqb, ltb, not, ◌≢◌, ◌&&◌, ◌||◌, map, drop, get_or, length, List, [], ◌∷◌, ◌++◌, inl, inr, refl, sym, ap, ◌∙◌, arith, append_assoc, append-nil, true≢false}
use Rattle.std.proofs.lemmas.Bool.{cases_Bool, eqb-true, eq-eqb, ltb-true, ltb-false}
use Rattle.std.proofs.lemmas.List.{drop_more, map-append}
use Rattle.std.specs.Bool.{MatchBool}
use Rattle.std.specs.Cmp.{nat_cmp_is}
use Rattle.std.specs.List.{list_all}
use Rattle.std.specs.Ordering.{is_eq, nat_cmp}
use Rattle.std.specs.declared.cmp.Ordering.TheVariants.{Less, Equal, Greater}
use Rattle.strat_base.specs.Entries.{is_tagged}
use Rattle.strat_base.specs.declared.descriptors.ArrayDesc.{ArrayDesc}
use Rattle.strat_base.specs.declared.descriptors.LevelDesc.{LevelDesc}
use Rattle.def_publish.specs.Occupied.{arrays_in}
use Rattle.def_state.specs.Level.{is_distinct}
use Rattle.strat_memory.specs.Belonging.{are_new}

pub new_step : (has later : ℕ → Bool) (k : ℕ) (xs : List ℕ) → has k ≡ false → ((q : ℕ) → later q ≡ cond (is_eq (nat_cmp k q)) true (has q)) → are_new later xs ≡ are_new has (k ∷ xs)
unfolding are_new
new_step has later k xs none more =
    (λ i. are_new (λ q. more q i) xs)
    ∙ sym (ap (λ (b : Bool). not b && are_new (λ q. cond (is_eq (nat_cmp k q)) true (has q)) xs) none)

pub new_stops : (has : ℕ → Bool) (k : ℕ) (xs : List ℕ) → has k ≡ true → are_new has (k ∷ xs) ≡ false
unfolding are_new
new_stops has k xs there = ap (λ (b : Bool). not b && are_new (λ q. cond (is_eq (nat_cmp k q)) true (has q)) xs) there

abbrev pub ids : List ArrayDesc → List ℕ
ids rs = map (λ a. a.id) rs

module _ (arrays : List ArrayDesc) (i : ℕ) (x : ArrayDesc) (within : i < length arrays) (same : x ≡ get_or arrays i x) (old mid : ℕ → Bool) (going : (rest : List ℕ) → are_new mid (ids (drop i arrays) ++ rest) ≡ are_new old (ids arrays ++ rest)) where
  id_first : (rest : List ℕ) → ids (drop i arrays) ++ rest ≡ x.id ∷ (ids (drop (i + 1) arrays) ++ rest)
  id_first rest = ap (λ (rs : List ArrayDesc). ids rs ++ rest) (drop_more arrays i x within) ∙ ap (λ (a : ArrayDesc). a.id ∷ (ids (drop (i + 1) arrays) ++ rest)) (sym same)

  pub id_added : (new : ℕ → Bool) → mid x.id ≡ false → ((q : ℕ) → new q ≡ cond (is_eq (nat_cmp x.id q)) true (mid q)) → (rest : List ℕ) → are_new new (ids (drop (i + 1) arrays) ++ rest) ≡ are_new old (ids arrays ++ rest)
  id_added new none more rest = new_step mid new x.id (ids (drop (i + 1) arrays) ++ rest) none more ∙ sym (ap (are_new mid) (id_first rest)) ∙ going rest

  pub id_stops : mid x.id ≡ true → (rest : List ℕ) → are_new old (ids arrays ++ rest) ≡ false
  id_stops there rest = sym (going rest) ∙ ap (are_new mid) (id_first rest) ∙ new_stops mid x.id (ids (drop (i + 1) arrays) ++ rest) there

module _ (levels : List LevelDesc) (i : ℕ) (x : LevelDesc) (within : i < length levels) (same : x ≡ get_or levels i x) (old mid : ℕ → Bool) (going : (rest : List ℕ) → are_new mid (ids (arrays_in (drop i levels)) ++ rest) ≡ are_new old (ids (arrays_in levels) ++ rest)) where
  ids_first : (rest : List ℕ) → ids (arrays_in (drop i levels)) ++ rest ≡ ids x.arrays ++ (ids (arrays_in (drop (i + 1) levels)) ++ rest)
  ids_first rest =
      ap (λ (ls : List LevelDesc). ids (arrays_in ls) ++ rest) (drop_more levels i x within)
      ∙ ap (λ (l : LevelDesc). ids (l.arrays ++ arrays_in (drop (i + 1) levels)) ++ rest) (sym same)
      ∙ ap (λ (ns : List ℕ). ns ++ rest) (map-append (λ (a : ArrayDesc). a.id) x.arrays (arrays_in (drop (i + 1) levels)))
      ∙ append_assoc (ids x.arrays) (ids (arrays_in (drop (i + 1) levels))) rest

  pub ids_added : (new : ℕ → Bool) → ((rest : List ℕ) → are_new new rest ≡ are_new mid (ids x.arrays ++ rest)) → (rest : List ℕ) → are_new new (ids (arrays_in (drop (i + 1) levels)) ++ rest) ≡ are_new old (ids (arrays_in levels) ++ rest)
  ids_added new more rest = more (ids (arrays_in (drop (i + 1) levels)) ++ rest) ∙ sym (ap (are_new mid) (ids_first rest)) ∙ going rest

  pub ids_stop : ((rest : List ℕ) → are_new mid (ids x.arrays ++ rest) ≡ false) → (rest : List ℕ) → are_new old (ids (arrays_in levels) ++ rest) ≡ false
  ids_stop none rest = sym (going rest) ∙ ap (are_new mid) (ids_first rest) ∙ none (ids (arrays_in (drop (i + 1) levels)) ++ rest)

-- numbers are new to no others where they are distinct
cmp_same : (x q : ℕ) → is_eq (nat_cmp x q) ≡ eqb q x
cmp_same x q =
    elim (cases_Bool (eqb q x)) [
      | inl same ↦ sym (ap is_eq (nat_cmp_is x q Equal (sym (eqb-true q x same)))) ∙ sym same
      | inr other ↦
          elim (cases_Bool (ltb x q)) [
            | inl below ↦ sym (ap is_eq (nat_cmp_is x q Less (ltb-true x q below))) ∙ sym other
            | inr above ↦
                let apart : q ≢ x = λ same. true≢false (sym (eq-eqb q x same) ∙ other) in
                sym (ap is_eq (nat_cmp_is x q Greater (omega (arith, ltb-false x q above, apart)))) ∙ sym other
          ]
    ]

both : (h t m d : Bool) (e : Bool) → e ≡ (t && not m) → not h && (e && d) ≡ ((not h && t) && (not m && d))
both true t m d e is = refl
both false t m d e is = ap (λ (b : Bool). b && d) is ∙ and_assoc t (not m) d
  where
    and_assoc : (a b c : Bool) → (a && b) && c ≡ a && (b && c)
    and_assoc true b c = refl
    and_assoc false b c = refl

four : (e h t m : Bool) → not (cond e true h) && (t && not m) ≡ (not h && t) && not (e || m)
four true true t m = refl
four true false true m = refl
four true false false m = refl
four false true t m = refl
four false false t m = refl

new_apart : (has : ℕ → Bool) (x : ℕ) (xs : List ℕ) → list_all (λ y. not (cond (is_eq (nat_cmp x y)) true (has y))) xs ≡ list_all (λ y. not (has y)) xs && not (is_tagged xs x)
new_apart has x [] = refl
new_apart has x (y ∷ ys) =
    (λ i. not (cond (cmp_same x y i) true (has y)) && new_apart has x ys i)
    ∙ four (eqb y x) (has y) (list_all (λ z. not (has z)) ys) (is_tagged ys x)

new_distinct : (has : ℕ → Bool) (xs : List ℕ) → are_new has xs ≡ list_all (λ y. not (has y)) xs && is_distinct xs
unfolding are_new
new_distinct has [] = refl
new_distinct has (x ∷ xs) =
    ap (λ (b : Bool). not (has x) && b) (new_distinct (λ q. cond (is_eq (nat_cmp x q)) true (has q)) xs)
    ∙ both (has x) (list_all (λ y. not (has y)) xs) (is_tagged xs x) (is_distinct xs) _ (new_apart has x xs)

none_had : (has : ℕ → Bool) (xs : List ℕ) → ((q : ℕ) → has q ≡ false) → list_all (λ y. not (has y)) xs ≡ true
none_had has [] none = refl
none_had has (x ∷ xs) none = (λ i. not (none x i) && none_had has xs none i)

new_nothing : (has : ℕ → Bool) → are_new has [] ≡ true
unfolding are_new
new_nothing has = refl

pub own_is : (old new : ℕ → Bool) (own : Bool) (xs : List ℕ) → ((q : ℕ) → old q ≡ false)
    → ((rest : List ℕ) → MatchBool own (are_new new rest ≡ are_new old (xs ++ rest)) (are_new old (xs ++ rest) ≡ false)) → own ≡ is_distinct xs
own_is old new own xs none told = by own (told []) ∙ ap (are_new old) (append-nil xs) ∙ new_distinct old xs ∙ ap (λ (b : Bool). b && is_distinct xs) (none_had old xs none)
  where
    by : (b : Bool) → MatchBool b (are_new new [] ≡ are_new old (xs ++ [])) (are_new old (xs ++ []) ≡ false) → b ≡ are_new old (xs ++ [])
    by true same = sym (new_nothing new) ∙ same
    by false same = sym same
