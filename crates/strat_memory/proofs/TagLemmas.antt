-- Tags that rise and are disjoint hold each version once.
use Rattle.std.proofs.Common.{◌≡◌, ◌<◌, ◌≤◌, ◌+◌, ℕ, Bool, true, false, cond, eqb, ltb, not, inl, inr, List, [], ◌∷◌, zero, suc, refl, sym, ap, ◌∙◌, arith, true≢false}
use Rattle.std.proofs.lemmas.Bool.{and_parts, and_from, cases_Bool, ltb-true, eq-eqb, not_from_false, false_from_ne_true}
use Rattle.std.proofs.lemmas.List.Sums.{sum_by-cons, sum_by-append}
use Rattle.std.specs.List.{flat_map, list_all}
use Rattle.strat_base.proofs.ListFacts.{Among}
use Rattle.strat_base.specs.Entries.{is_tagged}
use Rattle.strat_base.specs.declared.descriptors.ArrayDesc.{ArrayDesc}
use Rattle.strat_base.specs.declared.descriptors.LevelDesc.{LevelDesc}
use Rattle.def_bytes.specs.Manifest.{is_rising}
use Rattle.strat_level.specs.Levels.{HaveDisjointTags, is_for, arrays_for}
use Rattle.def_recovery.specs.Opening.{has_own_versions}
use Rattle.def_state.proofs.LevelLemmas.{tagged_among, among_tagged}
use Rattle.def_state.specs.Level.{is_distinct}
use Rattle.strat_memory.proofs.OwnLemmas.{counted, counted_cons, counted_among, among_counted, once_counted}

pub rising_parts : (x : ℕ) (xs : List ℕ) → is_rising (x ∷ xs) ≡ true → ((y : ℕ) → Among y xs → x < y) × (is_rising xs ≡ true)
rising_parts x [] up = (λ y there. absurd there, refl)
rising_parts x (z ∷ zs) up =
    let parts = and_parts (ltb x z) (is_rising (z ∷ zs)) up in
    let rest = rising_parts z zs parts.1 in (
      λ y there.
          elim there [
            | inl here ↦ omega (arith, here, ltb-true x z parts.0)
            | inr later ↦ omega (arith, rest.0 y later, ltb-true x z parts.0)
          ],
      parts.1,
    )

rising_distinct : (xs : List ℕ) → is_rising xs ≡ true → is_distinct xs ≡ true
rising_distinct [] up = refl
rising_distinct (x ∷ xs) up =
    let parts = rising_parts x xs up in
    and_from (not (is_tagged xs x)) (is_distinct xs)
    (not_from_false (is_tagged xs x) (false_from_ne_true (is_tagged xs x) (λ there. let later = parts.0 x (tagged_among xs x there) in absurd (omega (arith, later)))))
    (rising_distinct xs parts.1)

distinct_once : (xs : List ℕ) → ((b : ℕ) → counted xs b ≤ 1) → is_distinct xs ≡ true
distinct_once [] once = refl
distinct_once (x ∷ xs) once =
    let mine = ap (λ (t : Bool). cond {A = ℕ} t 1 0) (eq-eqb x x refl) in
    and_from (not (is_tagged xs x)) (is_distinct xs)
    (not_from_false (is_tagged xs x) (false_from_ne_true (is_tagged xs x) (λ there.
    let more = among_counted xs x (tagged_among xs x there) in absurd (omega (arith, once x, counted_cons x xs x, mine, more)))))
    (distinct_once xs (λ b. omega (arith, once b, counted_cons x xs b)))

-- a version is counted in tags as often as arrays are for it at least, and just so often where the tags rise
tag_most : (xs : List ℕ) (v : ℕ) → is_rising xs ≡ true → counted xs v ≤ cond (is_tagged xs v) 1 0
tag_most xs v up =
    elim (cases_Bool (is_tagged xs v)) [
      | inl there ↦ omega (arith, once_counted xs v (rising_distinct xs up), ap (λ (t : Bool). cond {A = ℕ} t 1 0) there)
      | inr none ↦ at_most (counted xs v) (λ some. true≢false (sym (among_tagged xs v (counted_among xs v some)) ∙ none)) _
    ]
  where
    at_most : (n : ℕ) → (0 < n → ⊥) → (m : ℕ) → n ≤ m
    at_most zero no' m = omega arith
    at_most (suc n) no' m = absurd (no' (omega arith))

tag_least : (xs : List ℕ) (v : ℕ) → cond (is_tagged xs v) 1 0 ≤ counted xs v
tag_least xs v =
    elim (cases_Bool (is_tagged xs v)) [
      | inl there ↦ omega (arith, among_counted xs v (tagged_among xs v there), ap (λ (t : Bool). cond {A = ℕ} t 1 0) there)
      | inr none ↦ omega (arith, ap (λ (t : Bool). cond {A = ℕ} t 1 0) none)
    ]

abbrev all_tags : List ArrayDesc → List ℕ
all_tags arrays = flat_map (λ a. a.versions) arrays

tags_cons : (a : ArrayDesc) (arrays : List ArrayDesc) (v : ℕ) → counted (all_tags (a ∷ arrays)) v ≡ counted a.versions v + counted (all_tags arrays) v
tags_cons a arrays v = sum_by-append (λ (x : ℕ). cond (eqb x v) 1 0) a.versions (all_tags arrays)

for_cons : (a : ArrayDesc) (arrays : List ArrayDesc) (v : ℕ) → arrays_for (a ∷ arrays) v ≡ cond (is_tagged a.versions v) 1 0 + arrays_for arrays v
for_cons a arrays v = sum_by-cons (λ (x : ArrayDesc). cond (is_for v x) 1 0) a arrays

tags_most : (arrays : List ArrayDesc) (v : ℕ) → list_all (λ a. is_rising a.versions) arrays ≡ true → counted (all_tags arrays) v ≤ arrays_for arrays v
tags_most [] v up = omega arith
tags_most (a ∷ arrays) v up =
    let parts = and_parts (is_rising a.versions) (list_all (λ (x : ArrayDesc). is_rising x.versions) arrays) up in
    omega (arith, tags_cons a arrays v, for_cons a arrays v, tag_most a.versions v parts.0, tags_most arrays v parts.1)

tags_least : (arrays : List ArrayDesc) (v : ℕ) → arrays_for arrays v ≤ counted (all_tags arrays) v
tags_least [] v = omega arith
tags_least (a ∷ arrays) v = omega (arith, tags_cons a arrays v, for_cons a arrays v, tag_least a.versions v, tags_least arrays v)

pub own_from : (level : LevelDesc) → list_all (λ a. is_rising a.versions) level.arrays ≡ true → HaveDisjointTags level.arrays → list_all (λ v. ltb v level.horizon) (all_tags level.arrays) ≡ true → has_own_versions level ≡ true
own_from level up apart low =
    and_from (is_distinct (all_tags level.arrays)) (list_all (λ v. ltb v level.horizon) (all_tags level.arrays))
    (distinct_once (all_tags level.arrays) (λ v. omega (arith, tags_most level.arrays v up, apart.once v))) low

pub not_own_tags : (level : LevelDesc) (v : ℕ) → 1 < arrays_for level.arrays v → has_own_versions level ≡ false
not_own_tags level v two =
    false_from_ne_true (has_own_versions level) (λ own.
    let apart = and_parts (is_distinct (all_tags level.arrays)) (list_all (λ v. ltb v level.horizon) (all_tags level.arrays)) own in
    absurd (omega (arith, two, tags_least level.arrays v, once_counted (all_tags level.arrays) v apart.0)))
