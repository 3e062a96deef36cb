-- The arrays that are kept for cursors, as arrays leave the levels and cursors are closed.
use Rattle.std.proofs.Common.{◌≡◌, ◌≤◌, ◌+◌, ◌⊎◌, ◌||◌, ℕ, Bool, true, false, not, cond, eqb, inl, inr, List, [], ◌∷◌, ◌++◌, map, refl, sym, ap, ◌∙◌, subst, arith, true≢false}
use Rattle.std.specs.List.{Contains, count_by, filter, list_any}
use Rattle.std.proofs.lemmas.Bool.{cases_Bool, and_parts, and_from, eq-eqb, eqb-true, not-true, not_from_false}
use Rattle.std.proofs.lemmas.List.{map-append}
use Rattle.std.proofs.lemmas.List.Sums.{sum_by-append, sum_by-cons}
use Rattle.strat_base.proofs.ListFacts.{Among, any_from, among_left, among_right, among_split, among_filter, among_flat, filter_among}
use Rattle.strat_base.specs.Entries.{is_tagged}
use Rattle.strat_base.specs.declared.descriptors.ArrayDesc.{ArrayDesc}
use Rattle.def_recovery.proofs.BadLemmas.{contained_at}
use Rattle.def_state.specs.Level.{is_distinct}
use Rattle.strat_cursor.specs.Cursors.{CursorOver, CursorsOver, arrays_named, is_array_named, without_cursor, closed_at, retired_all}
use Rattle.strat_cursor.specs.Looking.{HaveOwnIds}
use Rattle.strat_cursor.proofs.PinLemmas.{among_contained}

-- an array that a cursor names is named by its number
named_by_id : {L : Type 0} (cursors : List (CursorOver L)) (a : ArrayDesc) → Among a (arrays_named cursors) → is_array_named cursors a.id ≡ true
named_by_id {L} cursors a among =
    let found = among_flat (λ (c : CursorOver L). c.arrays) cursors a among in
    any_from (λ (c : CursorOver L). list_any (λ (x : ArrayDesc). eqb x.id a.id) c.arrays) found.0 cursors found.1
    (any_from (λ (x : ArrayDesc). eqb x.id a.id) a found.0.arrays found.2 (eq-eqb a.id a.id refl))

pub named_id : {L : Type 0} (cursors : List (CursorOver L)) (a : ArrayDesc) → Contains (arrays_named cursors) a → is_array_named cursors a.id ≡ true
named_id cursors a at = named_by_id cursors a (contained_at a (arrays_named cursors) at.0 at.1 at.2)

-- cursors after an array was retired, where a test decides whether it is kept
abbrev pub with_one : {L : Type 0} → Bool → ArrayDesc → CursorsOver L → CursorsOver L
with_one b a c = cond b (record c { retired = c.retired ++ a ∷ [] }) c

pub one_rest : {L : Type 0} (b : Bool) (a : ArrayDesc) (c : CursorsOver L) → ((with_one b a c).opened ≡ c.opened) × ((with_one b a c).next ≡ c.next) × ((with_one b a c).room ≡ c.room)
one_rest true a c = (refl, refl, refl)
one_rest false a c = (refl, refl, refl)

one_from : {L : Type 0} (b : Bool) (a : ArrayDesc) (c : CursorsOver L) (x : ArrayDesc) → Among x (with_one b a c).retired → Among x c.retired ⊎ (x ≡ a)
one_from true a c x among = elim (among_split c.retired (a ∷ []) x among) [
  | inl before ↦ inl before
  | inr last ↦ elim last [ inl same ↦ inr same | inr none ↦ absurd none ]
]
one_from false a c x among = inl among

one_kept : {L : Type 0} (b : Bool) (a : ArrayDesc) (c : CursorsOver L) (x : ArrayDesc) → Among x c.retired → Among x (with_one b a c).retired
one_kept true a c x among = among_left c.retired (a ∷ []) x among
one_kept false a c x among = among

-- how often a number is that of an array
abbrev times : List ArrayDesc → ℕ → ℕ
times arrays v = count_by (λ w. eqb w v) (map (λ a. a.id) arrays)

times_more : (xs ys : List ArrayDesc) (v : ℕ) → times (xs ++ ys) v ≡ times xs v + times ys v
times_more xs ys v =
    ap (λ (ns : List ℕ). count_by (λ w. eqb w v) ns) (map-append (λ (a : ArrayDesc). a.id) xs ys)
    ∙ sum_by-append (λ (w : ℕ). cond (eqb w v) 1 0) (map (λ (a : ArrayDesc). a.id) xs) (map (λ (a : ArrayDesc). a.id) ys)

times_first : (a : ArrayDesc) (arrays : List ArrayDesc) (v : ℕ) → times (a ∷ arrays) v ≡ times (a ∷ []) v + times arrays v
times_first a arrays v = times_more (a ∷ []) arrays v

one_times : {L : Type 0} (b : Bool) (a : ArrayDesc) (c : CursorsOver L) (v : ℕ) → times (with_one b a c).retired v ≤ times c.retired v + times (a ∷ []) v
one_times true a c v = omega (arith, times_more c.retired (a ∷ []) v)
one_times false a c v = omega arith

module _ {L : Type 0} (c : CursorsOver L) where
  pub retired_rest : (arrays : List ArrayDesc) → ((retired_all arrays c).opened ≡ c.opened) × ((retired_all arrays c).next ≡ c.next) × ((retired_all arrays c).room ≡ c.room)
  unfolding retired_all
  retired_rest [] = (refl, refl, refl)
  retired_rest (a ∷ arrays) =
      let now = one_rest (is_array_named (retired_all arrays c).opened a.id) a (retired_all arrays c) in
      let before = retired_rest arrays in
      (now.0 ∙ before.0, now.1 ∙ before.1, now.2 ∙ before.2)

  from_these : (arrays : List ArrayDesc) (x : ArrayDesc) → Among x (retired_all arrays c).retired → Among x c.retired ⊎ Among x arrays
  unfolding retired_all
  from_these [] x among = inl among
  from_these (a ∷ arrays) x among =
      elim (one_from (is_array_named (retired_all arrays c).opened a.id) a (retired_all arrays c) x among) [
        | inl before ↦ elim (from_these arrays x before) [ inl old ↦ inl old | inr later ↦ inr (inr later) ]
        | inr same ↦ inr (inl same)
      ]

  still_there : (arrays : List ArrayDesc) (x : ArrayDesc) → Among x c.retired → Among x (retired_all arrays c).retired
  unfolding retired_all
  still_there [] x among = among
  still_there (a ∷ arrays) x among =
      one_kept (is_array_named (retired_all arrays c).opened a.id) a (retired_all arrays c) x (still_there arrays x among)

  named_there : (arrays : List ArrayDesc) (x : ArrayDesc) → is_array_named c.opened x.id ≡ true → Among x arrays → Among x (retired_all arrays c).retired
  unfolding retired_all
  named_there [] x named among = absurd among
  named_there (a ∷ arrays) x named (inl here) =
      subst (λ b. Among x (with_one b a (retired_all arrays c)).retired)
      (sym ((λ i. is_array_named ((retired_rest arrays).0 i) (sym here i).id) ∙ named))
      (among_right (retired_all arrays c).retired (a ∷ []) x (inl here))
  named_there (a ∷ arrays) x named (inr there) =
      one_kept (is_array_named (retired_all arrays c).opened a.id) a (retired_all arrays c) x (named_there arrays x named there)

  times_retired : (arrays : List ArrayDesc) (v : ℕ) → times (retired_all arrays c).retired v ≤ times arrays v + times c.retired v
  unfolding retired_all
  times_retired [] v = omega arith
  times_retired (a ∷ arrays) v =
      omega (arith, times_retired arrays v, times_first a arrays v, one_times (is_array_named (retired_all arrays c).opened a.id) a (retired_all arrays c) v)

  pub retired_from : (arrays : List ArrayDesc) (x : ArrayDesc) → Contains (retired_all arrays c).retired x → Contains c.retired x ⊎ Contains arrays x
  retired_from arrays x at = elim (from_these arrays x (contained_at x (retired_all arrays c).retired at.0 at.1 at.2)) [
    | inl old ↦ inl (among_contained c.retired x old)
    | inr new ↦ inr (among_contained arrays x new)
  ]

  pub retired_kept : (arrays : List ArrayDesc) (x : ArrayDesc) → Contains c.retired x → Contains (retired_all arrays c).retired x
  retired_kept arrays x at = among_contained (retired_all arrays c).retired x (still_there arrays x (contained_at x c.retired at.0 at.1 at.2))

  pub retired_there : (arrays : List ArrayDesc) (x : ArrayDesc) → is_array_named c.opened x.id ≡ true → Contains arrays x → Contains (retired_all arrays c).retired x
  retired_there arrays x named at = among_contained (retired_all arrays c).retired x (named_there arrays x named (contained_at x arrays at.0 at.1 at.2))

-- numbers are distinct where each is there once at most
tagged_some : (xs : List ℕ) (v : ℕ) → is_tagged xs v ≡ false → count_by (λ w. eqb w v) xs ≡ 0
tagged_some [] v none = refl
tagged_some (x ∷ xs) v none = by (tagged_some xs v) (eqb x v) refl none
  where
    by : (is_tagged xs v ≡ false → count_by (λ w. eqb w v) xs ≡ 0) → (b : Bool) → eqb x v ≡ b → (b || is_tagged xs v) ≡ false → count_by (λ w. eqb w v) (x ∷ xs) ≡ 0
    by rest true is none_of = absurd (true≢false none_of)
    by rest false is none_of =
        omega (arith, sum_by-cons (λ (w : ℕ). cond (eqb w v) 1 0) x xs, ap {B = ℕ} (λ (b : Bool). cond b 1 0) is, rest none_of)

tagged_none : (xs : List ℕ) (v : ℕ) → count_by (λ w. eqb w v) xs ≤ 0 → is_tagged xs v ≡ false
tagged_none [] v none = refl
tagged_none (x ∷ xs) v none = by (tagged_none xs v) (eqb x v) refl
  where
    by : (count_by (λ w. eqb w v) xs ≤ 0 → is_tagged xs v ≡ false) → (b : Bool) → eqb x v ≡ b → (eqb x v || is_tagged xs v) ≡ false
    by rest true is = absurd (omega (arith, none, sum_by-cons (λ (w : ℕ). cond (eqb w v) 1 0) x xs, ap {B = ℕ} (λ (b : Bool). cond b 1 0) is))
    by rest false is =
        ap (λ b. b || is_tagged xs v) is
        ∙ rest (omega (arith, none, sum_by-cons (λ (w : ℕ). cond (eqb w v) 1 0) x xs, ap {B = ℕ} (λ (b : Bool). cond b 1 0) is))

distinct_once : (xs : List ℕ) (v : ℕ) → is_distinct xs ≡ true → count_by (λ w. eqb w v) xs ≤ 1
distinct_once [] v distinct = omega arith
distinct_once (x ∷ xs) v distinct =
    let parts = and_parts (not (is_tagged xs x)) (is_distinct xs) distinct in
    elim (cases_Bool (eqb x v)) [
      | inl same ↦
          let none : count_by (λ w. eqb w v) xs ≡ 0 = subst (λ n. count_by (λ w. eqb w n) xs ≡ 0) (eqb-true x v same) (tagged_some xs x (not-true (is_tagged xs x) parts.0)) in
          omega (arith, none, sum_by-cons (λ (w : ℕ). cond (eqb w v) 1 0) x xs, ap {B = ℕ} (λ (b : Bool). cond b 1 0) same)
      | inr other ↦
          omega (arith, distinct_once xs v parts.1, sum_by-cons (λ (w : ℕ). cond (eqb w v) 1 0) x xs, ap {B = ℕ} (λ (b : Bool). cond b 1 0) other)
    ]

once_distinct : (xs : List ℕ) → ((v : ℕ) → count_by (λ w. eqb w v) xs ≤ 1) → is_distinct xs ≡ true
once_distinct [] once = refl
once_distinct (x ∷ xs) once =
    let one : count_by (λ w. eqb w x) (x ∷ xs) ≤ 1 = once x in
    and_from (not (is_tagged xs x)) (is_distinct xs)
    (not_from_false (is_tagged xs x)
    (tagged_none xs x (omega (arith, one, sum_by-cons (λ (w : ℕ). cond (eqb w x) 1 0) x xs, ap {B = ℕ} (λ (b : Bool). cond b 1 0) (eq-eqb x x refl)))))
    (once_distinct xs (λ v. let all : count_by (λ w. eqb w v) (x ∷ xs) ≤ 1 = once v in omega (arith, all, sum_by-cons (λ (w : ℕ). cond (eqb w v) 1 0) x xs)))

-- arrays have their own numbers where no number is there more often than among others that have
fewer_own : (xs ys : List ArrayDesc) → ((v : ℕ) → times ys v ≤ times xs v) → HaveOwnIds xs → HaveOwnIds ys
fewer_own xs ys fewer own =
    once_distinct (map (λ a. a.id) ys) (λ v. let less = fewer v in let once = distinct_once (map (λ a. a.id) xs) v own in omega (arith, less, once))

pub retired_ids : {L : Type 0} (c : CursorsOver L) (arrays rest : List ArrayDesc) → HaveOwnIds (rest ++ (arrays ++ c.retired)) → HaveOwnIds (rest ++ (retired_all arrays c).retired)
retired_ids c arrays rest own =
    fewer_own (rest ++ (arrays ++ c.retired)) (rest ++ (retired_all arrays c).retired)
    (λ v. omega (arith, times_more rest (arrays ++ c.retired) v, times_more arrays c.retired v, times_more rest (retired_all arrays c).retired v, times_retired c arrays v))
    own

times_filter : (p : ArrayDesc → Bool) (arrays : List ArrayDesc) (v : ℕ) → times (filter p arrays) v ≤ times arrays v
times_filter p [] v = omega arith
times_filter p (a ∷ arrays) v = by (p a) (times_filter p arrays v)
  where
    by : (b : Bool) → times (filter p arrays) v ≤ times arrays v → times (cond b (a ∷ filter p arrays) (filter p arrays)) v ≤ times (a ∷ arrays) v
    by true less = omega (arith, less, times_first a arrays v, times_first a (filter p arrays) v)
    by false less = omega (arith, less, times_first a arrays v)

module _ {L : Type 0} (c : CursorsOver L) (n : ℕ) where
  pub closed_ids : (rest : List ArrayDesc) → HaveOwnIds (rest ++ c.retired) → HaveOwnIds (rest ++ (closed_at n c).retired)
  closed_ids rest own =
      fewer_own (rest ++ c.retired) (rest ++ (closed_at n c).retired)
      (λ v. omega (
        arith,
        times_more rest c.retired v,
        times_more rest (closed_at n c).retired v,
        times_filter (λ (a : ArrayDesc). is_array_named (without_cursor n c.opened) a.id) c.retired v,
      ))
      own

  pub closed_from : (a : ArrayDesc) → Contains (closed_at n c).retired a → Contains c.retired a
  closed_from a at =
      among_contained c.retired a
      (filter_among (λ (x : ArrayDesc). is_array_named (without_cursor n c.opened) x.id) c.retired a (contained_at a (closed_at n c).retired at.0 at.1 at.2)).0

  pub closed_keeps_named : (a : ArrayDesc) → Contains (arrays_named (without_cursor n c.opened)) a → Contains c.retired a → Contains (closed_at n c).retired a
  closed_keeps_named a named at =
      among_contained (closed_at n c).retired a
      (among_filter (λ (x : ArrayDesc). is_array_named (without_cursor n c.opened) x.id) c.retired a (contained_at a c.retired at.0 at.1 at.2) (named_id (without_cursor n c.opened) a named))
