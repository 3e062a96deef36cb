-- The pairs of a map in a range, from one key on.
use Rattle.std.proofs.Common.{◌≡◌, ◌<◌, ℕ, Bool, true, false, cond, not, ◌&&◌, inl, inr, List, [], ◌∷◌, length, Some, None, refl, sym, ap, ◌∙◌, subst, arith, true≢false}
use Rattle.std.specs.List.{AllByRecursion, filter}
use Rattle.std.specs.List.Sorted.{IsStrictlySortedBy}
use Rattle.std.specs.Map.{keys_of}
use Rattle.std.specs.Ordering.{is_eq, is_lt, ordering_reverse}
use Rattle.std.specs.declared.cmp.Ordering.{Ordering}
use Rattle.std.specs.declared.cmp.Ordering.TheVariants.{Less, Equal, Greater}
use Rattle.std.proofs.lemmas.Bool.{and_parts, and_from, cases_Bool}
use Rattle.std.proofs.lemmas.Cmp.{nat_list_cmp_total, tied_itself}
use Rattle.strat_base.specs.Order.{key_cmp}
use Rattle.strat_base.proofs.ListFacts.{Among}
use Rattle.strat_model.specs.Pairs.{Pair, Pairs, value_of, is_between, range}
use Rattle.strat_model.specs.Kept.{IsMap}
use Rattle.strat_model.proofs.MapLemmas.{same_key}
use Rattle.strat_merge.proofs.OrderLemmas.{lt_then_le, lt_is_gt, lt_le}
use Rattle.strat_cursor.specs.Ahead.{is_after, is_to_come, range_after}
use Rattle.strat_cursor.specs.Emitting.{is_under}

-- filters that agree on a list pick the same
pub filter_same : {X : Type 0} (p q : X → Bool) (xs : List X) → ((x : X) → Among x xs → p x ≡ q x) → filter p xs ≡ filter q xs
filter_same p q [] each = refl
filter_same p q (x ∷ xs) each =
    ap (λ (b : Bool). cond b (x ∷ filter p xs) (filter p xs)) (each x (inl refl))
    ∙ ap (λ (ys : List _). cond (q x) (x ∷ ys) ys) (filter_same p q xs (λ y among. each y (inr among)))

pub filter_none : {X : Type 0} (p : X → Bool) (xs : List X) → ((x : X) → Among x xs → p x ≡ false) → filter p xs ≡ []
filter_none p [] each = refl
filter_none p (x ∷ xs) each =
    ap (λ (b : Bool). cond b (x ∷ filter p xs) (filter p xs)) (each x (inl refl))
    ∙ filter_none p xs (λ y among. each y (inr among))

-- a key of a pair has a value
pub has_value : (m : Pairs) (p : Pair) → Among p m → value_of m p.0 ≡ None → ⊥
has_value [] p among none = among
has_value (e ∷ m) p (inl here) none =
    let at : is_eq (key_cmp p.0 e.0) ≡ true = ap is_eq (ap (λ (x : Pair). key_cmp p.0 x.0) (sym here) ∙ tied_itself nat_list_cmp_total p.0) in
    let some : Some e.1 ≡ None = sym (ap (λ (b : Bool). cond b (Some e.1) (value_of m p.0)) at) ∙ none in
    cc
has_value (e ∷ m) p (inr there) none = go (is_eq (key_cmp p.0 e.0)) (has_value m p there) none
  where
    go : (b : Bool) → (value_of m p.0 ≡ None → ⊥) → cond b (Some e.1) (value_of m p.0) ≡ None → ⊥
    go true later h = absurd (cc)
    go false later h = later h

above : (m : Pairs) (P : List ℕ → Type 0) (p : Pair) → AllByRecursion P (keys_of m) → Among p m → P p.0
above [] P p all among = absurd among
above (e ∷ m) P p all (inl here) = subst (λ (x : Pair). P x.0) (sym here) all.0
above (e ∷ m) P p all (inr there) = above m P p all.1 there

abbrev over : List ℕ → List ℕ → Bool
over k key = is_lt (key_cmp k key)

turned : (a b : List ℕ) (o : Ordering) → key_cmp a b ≡ o → key_cmp b a ≡ ordering_reverse o
turned a b o h = nat_list_cmp_total.antisymm b a ∙ ap ordering_reverse h

-- keys that are no less than each other's are one, or in order
not_over : (k key : List ℕ) → is_lt (key_cmp key k) ≡ false → over k key ≡ false → key ≡ k
not_over k key low high = go (key_cmp key k) refl
  where
    go : (o : Ordering) → key_cmp key k ≡ o → key ≡ k
    go Less h = absurd (true≢false (sym (ap is_lt h) ∙ low))
    go Equal h = same_key key k h
    go Greater h = absurd (true≢false (sym (ap is_lt (turned key k Greater h)) ∙ high))

and_over : (b c : Bool) → c ≡ true → b ≡ (b && c)
and_over false c is = refl
and_over true c is = sym is

below_all : (k : List ℕ) (ps : Pairs) → ((p : Pair) → Among p ps → key_cmp k p.0 ≡ Less) → value_of ps k ≡ None
below_all k [] each = refl
below_all k (p ∷ ps) each = ap (λ (o : Ordering). cond (is_eq o) (Some p.1) (value_of ps k)) (each p (inl refl)) ∙ below_all k ps (λ q among. each q (inr among))

module _ (R : List ℕ → Bool) (k : List ℕ) where
  abbrev picks : Pair → Bool
  picks p = R p.0

  abbrev picks_over : Pair → Bool
  picks_over p = R p.0 && over k p.0

  -- where no key of these is below k and none is k, the ones above k are all of them
  pub none_here : (m : Pairs) → ((key : List ℕ) → R key ≡ true → is_lt (key_cmp key k) ≡ true → value_of m key ≡ None) → (R k ≡ true → value_of m k ≡ None) → filter picks m ≡ filter picks_over m
  none_here m before here = filter_same picks picks_over m (λ p among. go p among (R p.0) refl)
    where
      go : (p : Pair) → Among p m → (b : Bool) → R p.0 ≡ b → b ≡ (b && over k p.0)
      go p among false is = refl
      go p among true is =
          elim (cases_Bool (over k p.0)) [
            | inl above' ↦ sym above'
            | inr not_above ↦ elim (cases_Bool (is_lt (key_cmp p.0 k))) [
              | inl below ↦ absurd (has_value m p among (before p.0 is below))
              | inr not_below ↦
                  let same : p.0 ≡ k = not_over k p.0 not_below not_above in
                  absurd (has_value m p among (ap (value_of m) same ∙ here (sym (ap R same) ∙ is)))
            ]
          ]

  -- the pair of k is the first of them, and the others are above k
  first_here : (m : Pairs) (x : List ℕ) → IsMap m → R k ≡ true → ((p : Pair) → Among p m → R p.0 ≡ true → is_lt (key_cmp p.0 k) ≡ true → ⊥) → value_of m k ≡ Some x → filter picks m ≡ (k, x) ∷ filter picks_over m
  unfolding IsStrictlySortedBy
  first_here [] x sorted on before here = absurd (cc)
  first_here (e ∷ m) x sorted on before here = go (first_here m x sorted.1 on (λ p among. before p (inr among))) (key_cmp e.0 k) refl
    where
      go : (value_of m k ≡ Some x → filter picks m ≡ (k, x) ∷ filter picks_over m) → (o : Ordering) → key_cmp e.0 k ≡ o → filter picks (e ∷ m) ≡ (k, x) ∷ filter picks_over (e ∷ m)
      go others Less h =
          let off : R e.0 ≡ false = elim (cases_Bool (R e.0)) [
            | inl is ↦ absurd (before e (inl refl) is (ap is_lt h))
            | inr is ↦ is
          ] in
          let later : value_of m k ≡ Some x = sym (ap (λ (o : Ordering). cond (is_eq o) (Some e.1) (value_of m k)) (turned e.0 k Less h)) ∙ here in
          let rest = others later in
          ap (λ (b : Bool). cond b (e ∷ filter picks m) (filter picks m)) off
          ∙ rest
          ∙ ap (λ (b : Bool). (k, x) ∷ cond (b && over k e.0) (e ∷ filter picks_over m) (filter picks_over m)) (sym off)
      go others Equal h =
          let same : e.0 ≡ k = same_key e.0 k h in
          let tied : key_cmp k e.0 ≡ Equal = turned e.0 k Equal h in
          let one : Some e.1 ≡ Some x = sym (ap (λ (o : Ordering). cond (is_eq o) (Some e.1) (value_of m k)) tied) ∙ here in
          let value : e.1 ≡ x = cc in
          let there : R e.0 ≡ true = ap R same ∙ on in
          let out : (R e.0 && over k e.0) ≡ false = ap (λ (b : Bool). b && over k e.0) there ∙ ap is_lt tied in
          ap (λ (b : Bool). cond b (e ∷ filter picks m) (filter picks m)) there
          ∙ (λ j. (same j, value j) ∷ filter_same picks picks_over m (λ p among. and_over (R p.0) (over k p.0) (ap is_lt (subst (λ (y : List ℕ). key_cmp y p.0 ≡ Less) same (above m (λ y. key_cmp e.0 y ≡ Less) p sorted.0 among)))) j)
          ∙ ap (λ (b : Bool). (k, x) ∷ cond b (e ∷ filter picks_over m) (filter picks_over m)) (sym out)
      go others Greater h =
          let up : key_cmp k e.0 ≡ Less = turned e.0 k Greater h in
          let none : value_of m k ≡ None = below_all k m (λ p among. nat_list_cmp_total.trans k e.0 p.0 up (above m (λ y. key_cmp e.0 y ≡ Less) p sorted.0 among)) in
          let two : None ≡ Some x = sym (ap (λ (o : Ordering). cond (is_eq o) (Some e.1) (value_of m k)) up ∙ none) ∙ here in
          absurd (cc)

  pub told_here : (m : Pairs) (x : List ℕ) → IsMap m → R k ≡ true → ((key : List ℕ) → R key ≡ true → is_lt (key_cmp key k) ≡ true → value_of m key ≡ None) → value_of m k ≡ Some x → filter picks m ≡ (k, x) ∷ filter picks_over m
  told_here m x sorted on before here = first_here m x sorted on (λ p among is below. has_value m p among (before p.0 is below)) here

narrow_test : (a b c d : Bool) → c ≡ d → (c ≡ true → b ≡ true) → ((a && b) && d) ≡ (a && c)
narrow_test false b c d is later = refl
narrow_test true true c d is later = sym is
narrow_test true false true d is later = absurd (true≢false (sym (later refl)))
narrow_test true false false d is later = refl

-- in terms of what was handled last
module _ (lo hi last : List ℕ) where
  abbrev in_range : List ℕ → Bool
  in_range key = is_between lo hi key && is_after last key

  between_parts : (key : List ℕ) → is_between lo hi key ≡ true → (not (is_lt (key_cmp key lo)) ≡ true) × (is_under hi key ≡ true)
  between_parts key between = go hi between
    where
      go : (h : List ℕ) → is_between lo h key ≡ true → (not (is_lt (key_cmp key lo)) ≡ true) × (is_under h key ≡ true)
      go [] is = (is, refl)
      go (b ∷ h) is = and_parts (not (is_lt (key_cmp key lo))) (is_lt (key_cmp key (b ∷ h))) is

  between_from : (key : List ℕ) → not (is_lt (key_cmp key lo)) ≡ true → is_under hi key ≡ true → is_between lo hi key ≡ true
  between_from key from under = go hi under
    where
      go : (h : List ℕ) → is_under h key ≡ true → is_between lo h key ≡ true
      go [] is = from
      go (b ∷ h) is = and_from (not (is_lt (key_cmp key lo))) (is_lt (key_cmp key (b ∷ h))) from is

  pub range_come : (key : List ℕ) → in_range key ≡ true → is_to_come lo last key ≡ true
  range_come key in' =
      let parts = and_parts (is_between lo hi key) (is_after last key) in' in
      and_from (not (is_lt (key_cmp key lo))) (is_after last key) (between_parts key parts.0).0 parts.1

  range_under : (key : List ℕ) → in_range key ≡ true → is_under hi key ≡ true
  range_under key in' = (between_parts key (and_parts (is_between lo hi key) (is_after last key) in').0).1

  -- where no key is to come, no pair is
  pub range_done : (m : Pairs) → ((key : List ℕ) → in_range key ≡ true → value_of m key ≡ None) → range_after m lo hi last ≡ []
  range_done m none = filter_none (λ (p : Pair). in_range p.0) m (λ p among. elim (cases_Bool (in_range p.0)) [
    | inl is ↦ absurd (has_value m p among (none p.0 is))
    | inr off ↦ off
  ])

  -- a key that is not below hi is above all in the range
  pub past_hi : (k key : List ℕ) → is_under hi k ≡ false → in_range key ≡ true → is_lt (key_cmp key k) ≡ true
  past_hi k key past in' = go hi past (range_under key in')
    where
      go : (h : List ℕ) → is_under h k ≡ false → is_under h key ≡ true → is_lt (key_cmp key k) ≡ true
      go [] off under = absurd (true≢false off)
      go (b ∷ h) off under = lt_then_le nat_list_cmp_total key (b ∷ h) k under (sym (lt_is_gt nat_list_cmp_total k (b ∷ h)) ∙ off)

  module _ (k : List ℕ) (some : 0 < length k) (after : is_after last k ≡ true) where
    over_is : (key : List ℕ) → is_after k key ≡ over k key
    over_is key = go k some
      where
        go : (x : List ℕ) → 0 < length x → is_after x key ≡ is_lt (key_cmp x key)
        go [] low = absurd (omega (arith, low))
        go (b ∷ x) low = refl

    pub later_after : (key : List ℕ) → is_after k key ≡ true → is_after last key ≡ true
    later_after key is = go last after (sym (over_is key) ∙ is)
      where
        go : (l : List ℕ) → is_after l k ≡ true → is_lt (key_cmp k key) ≡ true → is_after l key ≡ true
        go [] a b = refl
        go (x ∷ l) a b = lt_then_le nat_list_cmp_total (x ∷ l) k key a (lt_le nat_list_cmp_total k key b)

    narrow : (m : Pairs) → filter (λ (p : Pair). in_range p.0 && over k p.0) m ≡ range_after m lo hi k
    narrow m = filter_same (λ (p : Pair). in_range p.0 && over k p.0) (λ (p : Pair). is_between lo hi p.0 && is_after k p.0) m (λ p among.
        narrow_test (is_between lo hi p.0) (is_after last p.0) (is_after k p.0) (over k p.0) (over_is p.0) (later_after p.0))

    module _ (m : Pairs) (before : (key : List ℕ) → in_range key ≡ true → is_lt (key_cmp key k) ≡ true → value_of m key ≡ None) where
      -- a key without a value is passed over
      pub range_passed : value_of m k ≡ None → range_after m lo hi last ≡ range_after m lo hi k
      range_passed none = none_here in_range k m before (λ on. none) ∙ narrow m

      -- a key with one is the first
      pub range_told : (x : List ℕ) → IsMap m → not (is_lt (key_cmp k lo)) ≡ true → is_under hi k ≡ true → value_of m k ≡ Some x → range_after m lo hi last ≡ (k, x) ∷ range_after m lo hi k
      range_told x sorted from under here =
          told_here in_range k m x sorted (and_from (is_between lo hi k) (is_after last k) (between_from k from under) after) before here
          ∙ ap (λ (ps : Pairs). (k, x) ∷ ps) (narrow m)

and_true : (b : Bool) → (b && true) ≡ b
and_true true = refl
and_true false = refl

-- before any key was handled the whole range is to come
pub range_all : (m : Pairs) (lo hi : List ℕ) → range_after m lo hi [] ≡ range m lo hi
range_all m lo hi = filter_same (λ (p : Pair). is_between lo hi p.0 && is_after [] p.0) (λ (p : Pair). is_between lo hi p.0) m (λ p among. and_true (is_between lo hi p.0))
