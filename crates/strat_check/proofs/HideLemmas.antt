-- What the versions of a key hide, found in one pass from the greatest down.
use Rattle.std.proofs.Common.{◌≡◌, ◌<◌, ◌≤◌, ◌+◌, ◌-◌, ℕ, zero, suc, Bool, true, false, cond, eqb, ltb, leb, ◌&&◌, ◌||◌, not, get_or, take, drop, inl, inr, ◌⊎◌, List, [], ◌∷◌, ◌++◌, length, Option, Some, None, refl, sym, ap, ◌∙◌, subst, arith, true≢false}
use Rattle.std.specs.List.{list_any, list_all, find, sum_by}
use Rattle.std.specs.Option.{option_map_or, option_or}
use Rattle.std.proofs.lemmas.Bool.{cases_Bool, and_parts, and_from, and_left, and_right, ltb-true, lt-ltb, le-leb, lt-leb, le-ltb, eqb-true, eq-eqb, false_from_ne_true}
use Rattle.std.proofs.lemmas.List.{take-append-drop, take_all, take_more, drop_more}
use Rattle.std.proofs.lemmas.List.Folds.{find-append, list_any_more}
use Rattle.strat_base.specs.Order.{descends}
use Rattle.strat_base.specs.Tree.{Parents, parent_of, is_ancestor, path, IsTree}
use Rattle.strat_base.proofs.ListFacts.{Among, any_among, any_from, all_at, among_left, among_right, among_split}
use Rattle.strat_base.proofs.ResultFacts.{option_cases}
use Rattle.strat_base.proofs.TreeLemmas.{parent_older, path_le, on_root, on_path, from_path, self_on_path, ancestor_among, among_ancestor}
use Rattle.strat_tree.specs.Preorder.{Numbering, IsPreorder}
use Rattle.strat_check.specs.declared.bare.Bare.{Bare}
use Rattle.strat_check.specs.Bares.{are_in_order, is_bare, is_place_of, replaced}
use Rattle.strat_check.specs.Sightings.{weight_above, weight_lost}
use Rattle.strat_check.specs.Sums.{HaveGrown}
use Rattle.strat_check.proofs.BareLemmas.{among_take, among_drop, among_at, AreSpanned, spanned, order_part, order_rest, order_replaced, bare_replaced, bare_parts, sum_once}
use Rattle.strat_check.proofs.GrowthLemmas.{grown_none, grown_more, grown_same}

-- nothing is found where nothing passes
pub find_nothing : {X : Type 0} (p : X → Bool) (xs : List X) → ((x : X) → Among x xs → p x ≡ false) → find p xs ≡ None
find_nothing p [] none = refl
find_nothing p (x ∷ xs) none = ap (λ (b : Bool). cond b (Some x) (find p xs)) (none x (inl refl)) ∙ find_nothing p xs (λ y among. none y (inr among))

-- versions before one are greater
greater_before : (versions : List ℕ) (i : ℕ) → descends versions ≡ true → i < length versions → (u : ℕ) → Among u (take i versions) → get_or versions i 0 < u
greater_before [] i down lt u among = absurd (omega arith)
greater_before (x ∷ xs) zero down lt u among = absurd among
greater_before (x ∷ xs) (suc i) down lt u (inl here) =
    let parts = and_parts (list_all (λ w. ltb w x) xs) (descends xs) down in
    let less : get_or xs i 0 < x = ltb-true (get_or xs i 0) x (all_at (λ w. ltb w x) (get_or xs i 0) xs parts.0 (among_at xs i 0 (omega arith))) in
    omega (arith, less, here)
greater_before (x ∷ xs) (suc i) down lt u (inr there) =
    greater_before xs i (and_parts (list_all (λ w. ltb w x) xs) (descends xs) down).1 (omega arith) u there

-- the versions of a key before a place were taken, and these are those of them that nothing hides yet
pub record ArePassed (parents : Parents) (order : Numbering) (versions : List ℕ) (i : ℕ) (bare : List Bare) : Type 0 where
  pub ordered : are_in_order bare ≡ true
  pub each : (b : Bare) → Among b bare → Among b.version (take i versions) × (b.start ≡ get_or order.starts b.version 0)
  pub free : (b : Bare) → Among b bare → (u : ℕ) → Among u (take i versions) → u < b.version → is_ancestor parents u b.version ≡ false

-- what v hides, once something hides it
abbrev pub lost_so_far : Parents → (ℕ → ℕ) → List ℕ → ℕ → List Bare → ℕ → ℕ
lost_so_far parents weight versions i bare v = cond (list_any (λ u. eqb u v) (take i versions) && not (is_bare bare v)) (weight_above parents weight v versions) 0

pub passed_none : (parents : Parents) (order : Numbering) (versions : List ℕ) → ArePassed parents order versions 0 []
passed_none parents order versions =
    record {
      ordered = refl;
      each = λ b among. absurd among;
      free = λ b among. absurd among;
    }

-- a version that joins those that are bare: what it hides leaves them, and nothing else is changed
tally : (done pre mid post here : Bool) (above by : ℕ) → (here ≡ true → (done ≡ false) × (mid ≡ false)) → (here ≡ false → mid ≡ true → (done ≡ true) × (pre ≡ false) × (post ≡ false) × (above ≡ by))
    → cond (done && not (pre || (mid || post))) above 0 + cond mid by 0 ≡ cond ((done || here) && not (pre || (here || post))) above 0
tally true pre mid post true above by own other = absurd (true≢false (own refl).0)
tally false pre true post true above by own other = absurd (true≢false (own refl).1)
tally false true false post true above by own other = refl
tally false false false post true above by own other = refl
tally false pre true post false above by own other = absurd (true≢false (sym (other refl refl).0))
tally true true true post false above by own other = absurd (true≢false (other refl refl).1)
tally true false true true false above by own other = absurd (true≢false (other refl refl).2)
tally true false true false false above by own other = let same = (other refl refl).3 in omega (arith, same)
tally false true false post false above by own other = refl
tally false false false post false above by own other = refl
tally true true false post false above by own other = refl
tally true false false true false above by own other = refl
tally true false false false false above by own other = omega arith

-- nothing is above what is bare at the end
unhidden : (own bare : Bool) (above : ℕ) → (bare ≡ true → above ≡ 0) → cond (own && not bare) above 0 ≡ cond own above 0
unhidden true true above none = sym (none refl)
unhidden true false above none = refl
unhidden false bare above none = refl

module _ (parents : Parents) (tree : IsTree parents) (order : Numbering) (versions : List ℕ) (i : ℕ) (bare : List Bare) (passed : ArePassed parents order versions i bare) where
  -- nothing so far is above the parent of a version that is bare
  above_free : (b : Bare) → Among b bare → (p : ℕ) → parent_of parents b.version ≡ Some p → (u : ℕ) → Among u (take i versions) → is_ancestor parents u p ≡ false
  above_free b among p some u there =
      false_from_ne_true (is_ancestor parents u p) (λ up.
      let on : Among u (path parents p) = ancestor_among parents tree u p up in
      let le : u ≤ p = path_le parents tree u p on in
      let older : p < b.version = parent_older parents tree b.version p some in
      let off : is_ancestor parents u b.version ≡ false = passed.free b among u there (omega arith) in
      true≢false (sym (among_ancestor parents tree u b.version (from_path parents tree u b.version p some (inr on))) ∙ off))

  -- what is bare at the end hides nothing
  passed_all : length versions ≤ i → (weight : ℕ → ℕ) (v : ℕ) → lost_so_far parents weight versions i bare v ≡ weight_lost parents weight v versions
  passed_all whole weight v =
      let all : take i versions ≡ versions = take_all i versions whole in
      let done : list_any (λ u. eqb u v) (take i versions) ≡ list_any (λ u. eqb u v) versions = ap (λ (us : List ℕ). list_any (λ u. eqb u v) us) all in
      let at : lost_so_far parents weight versions i bare v ≡ cond (list_any (λ u. eqb u v) versions && not (is_bare bare v)) (weight_above parents weight v versions) 0 =
      ap (λ (b : Bool). cond (b && not (is_bare bare v)) (weight_above parents weight v versions) 0) done in
      at ∙ elim (cases_Bool (is_bare bare v)) [
        | inr off ↦ unhidden (list_any (λ u. eqb u v) versions) (is_bare bare v) (weight_above parents weight v versions) (λ on. absurd (true≢false (sym on ∙ off)))
        | inl on ↦
            let found = any_among (λ (b : Bare). eqb b.version v) bare on in
            let is : found.0.version ≡ v = eqb-true found.0.version v found.2 in
            let none : weight_above parents weight v versions ≡ 0 = elim (option_cases (parent_of parents v)) [
              | inl root ↦ ap (λ (o : Option ℕ). option_map_or (λ p. option_map_or weight (find (λ u. is_ancestor parents u p) versions) 0) o 0) root
              | inr some ↦
                  let up : parent_of parents found.0.version ≡ Some some.0 = ap (λ (w : ℕ). parent_of parents w) is ∙ some.1 in
                  let nothing : find (λ u. is_ancestor parents u some.0) versions ≡ None = find_nothing (λ u. is_ancestor parents u some.0) versions (λ u among. above_free found.0 found.1 some.0 up u (subst (λ (us : List ℕ). Among u us) (sym all) among)) in
                  ap (λ (o : Option ℕ). option_map_or (λ p. option_map_or weight (find (λ u. is_ancestor parents u p) versions) 0) o 0) some.1
                  ∙ ap (λ (o : Option ℕ). option_map_or weight o 0) nothing
            ] in
            unhidden (list_any (λ u. eqb u v) versions) (is_bare bare v) (weight_above parents weight v versions) (λ yes'. none)
      ]

  pub lost_all : length versions ≤ i → (weight : ℕ → ℕ) (a b : List ℕ) → HaveGrown (lost_so_far parents weight versions i bare) a b → HaveGrown (λ v. weight_lost parents weight v versions) a b
  lost_all whole weight a b grown = grown_same (lost_so_far parents weight versions i bare) (λ v. weight_lost parents weight v versions) a b (λ v lt. passed_all whole weight v) grown

  module _ (n : ℕ) (placed : IsPreorder n parents order) (down : descends versions ≡ true) (below : list_all (λ u. ltb u n) versions ≡ true) (lt : i < length versions) (from to : ℕ)
      (within : AreSpanned (get_or order.starts (get_or versions i 0) 0) (get_or order.ends (get_or versions i 0) 0) bare from to) where
    abbrev next : ℕ
    next = get_or versions i 0

    abbrev joined : Bare
    joined = record { start = get_or order.starts (get_or versions i 0) 0; version = get_or versions i 0 }

    next_known : next < n
    next_known = ltb-true next n (all_at (λ u. ltb u n) next versions below (among_at versions i 0 lt))

    bare_known : (b : Bare) → Among b bare → b.version < n
    bare_known b among = ltb-true b.version n (all_at (λ u. ltb u n) b.version versions below (among_take i versions b.version (passed.each b among).0))

    more : take (i + 1) versions ≡ take i versions ++ next ∷ []
    more = take_more versions i 0 lt

    done_more : (u : ℕ) → Among u (take (i + 1) versions) → Among u (take i versions) ⊎ (u ≡ next)
    done_more u among =
        elim (among_split (take i versions) (next ∷ []) u (subst (λ (us : List ℕ). Among u us) more among)) [
          | inl old ↦ inl old
          | inr (inl same) ↦ inr same
          | inr (inr none) ↦ absurd none
        ]

    still_done : (u : ℕ) → Among u (take i versions) → Among u (take (i + 1) versions)
    still_done u among = subst (λ (us : List ℕ). Among u us) (sym more) (among_left (take i versions) (next ∷ []) u among)

    next_done : Among next (take (i + 1) versions)
    next_done = subst (λ (us : List ℕ). Among next us) (sym more) (among_right (take i versions) (next ∷ []) next (inl refl))

    own_span : get_or order.starts next 0 < get_or order.ends next 0
    own_span =
        let tests = sym (placed.law next next next_known next_known) ∙ among_ancestor parents tree next next (self_on_path parents tree next) in
        ltb-true (get_or order.starts next 0) (get_or order.ends next 0) (and_parts (leb (get_or order.starts next 0) (get_or order.starts next 0)) (ltb (get_or order.starts next 0) (get_or order.ends next 0)) tests).1

    -- those outside are not below the next one
    low_apart : (b : Bare) → Among b (drop to bare) → is_ancestor parents next b.version ≡ false
    low_apart b among =
        let here = among_drop to bare b among in
        let start = (passed.each b here).1 in
        let less = within.low b among in
        placed.law next b.version next_known (bare_known b here)
        ∙ and_left (leb (get_or order.starts next 0) (get_or order.starts b.version 0)) (ltb (get_or order.starts b.version 0) (get_or order.ends next 0)) (lt-leb (get_or order.starts next 0) (get_or order.starts b.version 0) (omega (arith, start, less)))

    high_apart : (b : Bare) → Among b (take from bare) → is_ancestor parents next b.version ≡ false
    high_apart b among =
        let here = among_take from bare b among in
        let start = (passed.each b here).1 in
        let le = within.high b among in
        placed.law next b.version next_known (bare_known b here)
        ∙ and_right (leb (get_or order.starts next 0) (get_or order.starts b.version 0)) (ltb (get_or order.starts b.version 0) (get_or order.ends next 0)) (le-ltb (get_or order.starts b.version 0) (get_or order.ends next 0) (omega (arith, start, le)))

    -- and those within are
    mid_bare : (b : Bare) → Among b (take (to - from) (drop from bare)) → Among b bare
    mid_bare b among = among_drop from bare b (among_take (to - from) (drop from bare) b among)

    mid_below : (b : Bare) → Among b (take (to - from) (drop from bare)) → is_ancestor parents next b.version ≡ true
    mid_below b among =
        let here = mid_bare b among in
        let start = (passed.each b here).1 in
        let both = within.mid b among in
        let up : get_or order.starts next 0 ≤ get_or order.starts b.version 0 = omega (arith, start, both.0) in
        let inside : get_or order.starts b.version 0 < get_or order.ends next 0 = omega (arith, start, both.1) in
        placed.law next b.version next_known (bare_known b here)
        ∙ and_from (leb (get_or order.starts next 0) (get_or order.starts b.version 0)) (ltb (get_or order.starts b.version 0) (get_or order.ends next 0)) (le-leb (get_or order.starts next 0) (get_or order.starts b.version 0) up) (lt-ltb (get_or order.starts b.version 0) (get_or order.ends next 0) inside)

    pub passed_more : ArePassed parents order versions (i + 1) (replaced bare from to joined)
    passed_more =
        record {
          ordered = order_replaced (get_or order.starts next 0) (get_or order.ends next 0) bare from to joined passed.ordered within refl own_span;
          each = λ b among.
              elim (among_split (take from bare) (joined ∷ drop to bare) b among) [
                | inl high ↦ let old = passed.each b (among_take from bare b high) in (still_done b.version old.0, old.1)
                | inr (inl same) ↦
                    let version : b.version ≡ next = ap (λ (c : Bare). c.version) same in
                    let start : b.start ≡ get_or order.starts next 0 = ap (λ (c : Bare). c.start) same in
                    (subst (λ (u : ℕ). Among u (take (i + 1) versions)) (sym version) next_done, start ∙ ap (λ (u : ℕ). get_or order.starts u 0) (sym version))
                | inr (inr low) ↦ let old = passed.each b (among_drop to bare b low) in (still_done b.version old.0, old.1)
              ];
          free = λ b among u there less.
              elim (among_split (take from bare) (joined ∷ drop to bare) b among) [
                | inl high ↦
                    elim (done_more u there) [
                      | inl old ↦ passed.free b (among_take from bare b high) u old less
                      | inr same ↦ ap (λ (w : ℕ). is_ancestor parents w b.version) same ∙ high_apart b high
                    ]
                | inr (inl same) ↦
                    let version : b.version ≡ next = ap (λ (c : Bare). c.version) same in
                    elim (done_more u there) [
                      | inl old ↦ let greater = greater_before versions i down lt u old in absurd (omega (arith, version, greater, less))
                      | inr own ↦ absurd (omega (arith, version, own, less))
                    ]
                | inr (inr low) ↦
                    elim (done_more u there) [
                      | inl old ↦ passed.free b (among_drop to bare b low) u old less
                      | inr same ↦ ap (λ (w : ℕ). is_ancestor parents w b.version) same ∙ low_apart b low
                    ]
              ];
        }

    -- what the next one hides is what the parent of each of those below it sees
    hider : (b : Bare) → Among b (take (to - from) (drop from bare)) → (weight : ℕ → ℕ) → weight_above parents weight b.version versions ≡ weight next
    hider b among weight =
        let here = mid_bare b among in
        let greater = greater_before versions i down lt b.version (passed.each b here).0 in
        let on = ancestor_among parents tree next b.version (mid_below b among) in
        elim (option_cases (parent_of parents b.version)) [
          | inl root ↦ let same = on_root parents tree next b.version root on in absurd (omega (arith, greater, same))
          | inr some ↦
              elim (on_path parents tree next b.version some.0 some.1 on) [
                | inl same ↦ absurd (omega (arith, greater, same))
                | inr up ↦
                    let split : versions ≡ take i versions ++ next ∷ drop (i + 1) versions = sym (take-append-drop i versions) ∙ ap (λ (us : List ℕ). take i versions ++ us) (drop_more versions i 0 lt) in
                    let none : find (λ u. is_ancestor parents u some.0) (take i versions) ≡ None = find_nothing (λ u. is_ancestor parents u some.0) (take i versions) (λ u there. above_free b here some.0 some.1 u there) in
                    let first : find (λ u. is_ancestor parents u some.0) versions ≡ Some next =
                    ap (λ (us : List ℕ). find (λ u. is_ancestor parents u some.0) us) split
                    ∙ find-append (λ u. is_ancestor parents u some.0) (take i versions) (next ∷ drop (i + 1) versions)
                    ∙ ap (λ (o : Option ℕ). option_or o (find (λ u. is_ancestor parents u some.0) (next ∷ drop (i + 1) versions))) none
                    ∙ ap (λ (c : Bool). cond c (Some next) (find (λ u. is_ancestor parents u some.0) (drop (i + 1) versions))) (among_ancestor parents tree next some.0 up) in
                    ap (λ (o : Option ℕ). option_map_or (λ p. option_map_or weight (find (λ u. is_ancestor parents u p) versions) 0) o 0) some.1
                    ∙ ap (λ (o : Option ℕ). option_map_or weight o 0) first
              ]
        ]

    in_mid : (v : ℕ) → is_bare (take (to - from) (drop from bare)) v ≡ true → (b : Bare) × Among b (take (to - from) (drop from bare)) × (b.version ≡ v)
    in_mid v on = let found = any_among (λ (b : Bare). eqb b.version v) (take (to - from) (drop from bare)) on in (found.0, found.1, eqb-true found.0.version v found.2)

    -- a version stands once among those that are bare
    high_free : (v : ℕ) → is_bare (take (to - from) (drop from bare)) v ≡ true → is_bare (take from bare) v ≡ false
    high_free v on = false_from_ne_true (is_bare (take from bare) v) (λ again.
        let mid = in_mid v on in
        let found = any_among (λ (b : Bare). eqb b.version v) (take from bare) again in
        let mine = (passed.each mid.0 (mid_bare mid.0 mid.1)).1 in
        let other = (passed.each found.0 (among_take from bare found.0 found.1)).1 in
        let same = ap (λ (w : ℕ). get_or order.starts w 0) (mid.2 ∙ sym (eqb-true found.0.version v found.2)) in
        let high = within.high found.0 found.1 in
        let under = (within.mid mid.0 mid.1).1 in
        omega (arith, mine, other, same, high, under))

    low_free : (v : ℕ) → is_bare (take (to - from) (drop from bare)) v ≡ true → is_bare (drop to bare) v ≡ false
    low_free v on = false_from_ne_true (is_bare (drop to bare) v) (λ again.
        let mid = in_mid v on in
        let found = any_among (λ (b : Bare). eqb b.version v) (drop to bare) again in
        let mine = (passed.each mid.0 (mid_bare mid.0 mid.1)).1 in
        let other = (passed.each found.0 (among_drop to bare found.0 found.1)).1 in
        let same = ap (λ (w : ℕ). get_or order.starts w 0) (mid.2 ∙ sym (eqb-true found.0.version v found.2)) in
        let low = within.low found.0 found.1 in
        let up = (within.mid mid.0 mid.1).0 in
        omega (arith, mine, other, same, low, up))

    -- the next version was not met before
    not_done : (v : ℕ) → eqb next v ≡ true → list_any (λ u. eqb u v) (take i versions) ≡ false
    not_done v here = false_from_ne_true (list_any (λ u. eqb u v) (take i versions)) (λ met.
        let found = any_among (λ u. eqb u v) (take i versions) met in
        let greater = greater_before versions i down lt found.0 found.1 in
        let same = eqb-true next v here in
        let is = eqb-true found.0 v found.2 in
        omega (arith, greater, same, is))

    not_mid : (v : ℕ) → eqb next v ≡ true → is_bare (take (to - from) (drop from bare)) v ≡ false
    not_mid v here = false_from_ne_true (is_bare (take (to - from) (drop from bare)) v) (λ on.
        let mid = in_mid v on in
        let greater = greater_before versions i down lt mid.0.version (passed.each mid.0 (mid_bare mid.0 mid.1)).0 in
        let same = eqb-true next v here in
        let is = mid.2 in
        omega (arith, greater, same, is))

    was_done : (v : ℕ) → is_bare (take (to - from) (drop from bare)) v ≡ true → list_any (λ u. eqb u v) (take i versions) ≡ true
    was_done v on =
        let mid = in_mid v on in
        any_from (λ u. eqb u v) mid.0.version (take i versions) (passed.each mid.0 (mid_bare mid.0 mid.1)).0 (eq-eqb mid.0.version v mid.2)

    gained : (weight : ℕ → ℕ) (by : ℕ) → by ≡ weight next → (v : ℕ)
        → lost_so_far parents weight versions i bare v + sum_by (λ (b : Bare). cond (eqb b.version v) by 0) (take (to - from) (drop from bare))
        ≡ lost_so_far parents weight versions (i + 1) (replaced bare from to joined) v
    gained weight by is v =
        let above : ℕ = weight_above parents weight v versions in
        let done : Bool = list_any (λ u. eqb u v) (take i versions) in
        let pre : Bool = is_bare (take from bare) v in
        let mid : Bool = is_bare (take (to - from) (drop from bare)) v in
        let post : Bool = is_bare (drop to bare) v in
        let parts = bare_parts bare from to v within.le in
        let after = bare_replaced bare from to joined v in
        let met = list_any_more (λ u. eqb u v) versions i 0 lt in
        let once = sum_once order.starts by v (take (to - from) (drop from bare)) (order_part (to - from) (drop from bare) (order_rest from bare passed.ordered)) (λ b among. (passed.each b (mid_bare b among)).1) in
        let was : lost_so_far parents weight versions i bare v ≡ cond (done && not (pre || (mid || post))) above 0 = ap (λ (b : Bool). cond (done && not b) above 0) parts in
        let is_now : lost_so_far parents weight versions (i + 1) (replaced bare from to joined) v ≡ cond ((done || eqb next v) && not (pre || (eqb next v || post))) above 0 =
        ap (λ (b : Bool). cond (b && not (is_bare (replaced bare from to joined) v)) above 0) met ∙ ap (λ (b : Bool). cond ((done || eqb next v) && not b) above 0) after in
        let step = tally done pre mid post (eqb next v) above by
        (λ here. (not_done v here, not_mid v here))
        (λ apart on. let b = in_mid v on in (was_done v on, high_free v on, low_free v on, ap (λ (w : ℕ). weight_above parents weight w versions) (sym b.2) ∙ hider b.0 b.1 weight ∙ sym is)) in
        omega (arith, was, is_now, step, once)

    pub lost_more : (weight : ℕ → ℕ) (by : ℕ) → by ≡ weight next → (a b c : List ℕ) → length b ≡ length a → HaveGrown (lost_so_far parents weight versions i bare) a b
        → HaveGrown (λ v. sum_by (λ (x : Bare). cond (eqb x.version v) by 0) (take (to - from) (drop from bare))) b c
        → HaveGrown (lost_so_far parents weight versions (i + 1) (replaced bare from to joined)) a c
    lost_more weight by is a b c len first second =
        grown_more (lost_so_far parents weight versions i bare) (λ v. sum_by (λ (x : Bare). cond (eqb x.version v) by 0) (take (to - from) (drop from bare))) (lost_so_far parents weight versions (i + 1) (replaced bare from to joined)) a b c len
        (λ v lt'. gained weight by is v) first second

-- the versions of a key before a place were taken, with what they hide
pub record HaveHidden (parents : Parents) (order : Numbering) (versions : List ℕ) (i : ℕ) (bare : List Bare) (hidden weights hidden_now weights_now : List ℕ) : Type 0 where
  pub passed : ArePassed parents order versions i bare
  pub count : HaveGrown (lost_so_far parents (λ u. 1) versions i bare) hidden hidden_now
  pub weight : HaveGrown (lost_so_far parents suc versions i bare) weights weights_now

pub hidden_none : (parents : Parents) (order : Numbering) (versions : List ℕ) (bare : List Bare) (hidden weights : List ℕ) → bare ≡ [] → HaveHidden parents order versions 0 bare hidden weights hidden weights
hidden_none parents order versions bare hidden weights empty =
    rw empty (record {
      passed = passed_none parents order versions;
      count = grown_none (lost_so_far parents (λ u. 1) versions 0 []) hidden (λ v lt. refl);
      weight = grown_none (lost_so_far parents suc versions 0 []) weights (λ v lt. refl);
    })

module _ (parents : Parents) (tree : IsTree parents) (order : Numbering) (versions : List ℕ) (i : ℕ) (bare : List Bare) (hidden weights hidden_was weights_was : List ℕ) (have : HaveHidden parents order versions i bare hidden weights hidden_was weights_was)
    (n : ℕ) (placed : IsPreorder n parents order) (down : descends versions ≡ true) (below : list_all (λ u. ltb u n) versions ≡ true) (lt : i < length versions) where
  -- one more was taken
  pub hidden_more : (from m start stop : ℕ) → start ≡ get_or order.starts (get_or versions i 0) 0 → stop ≡ get_or order.ends (get_or versions i 0) 0
      → (are_in_order bare ≡ true → is_place_of bare stop from ≡ true)
      → (are_in_order (take (length bare - from) (drop from bare)) ≡ true → is_place_of (take (length bare - from) (drop from bare)) start m ≡ true)
      → length hidden_was ≡ length hidden → length weights_was ≡ length weights → (hidden_now weights_now : List ℕ)
      → HaveGrown (λ v. sum_by (λ (b : Bare). cond (eqb b.version v) 1 0) (take (from + m - from) (drop from bare))) hidden_was hidden_now
      → HaveGrown (λ v. sum_by (λ (b : Bare). cond (eqb b.version v) (get_or versions i 0 + 1) 0) (take (from + m - from) (drop from bare))) weights_was weights_now
      → HaveHidden parents order versions (i + 1) (replaced bare from (from + m) (record { start = start; version = get_or versions i 0 })) hidden weights hidden_now weights_now
  hidden_more from m start stop is_start is_stop first second hidden_len weights_len hidden_now weights_now count weight =
      let at_first : is_place_of bare stop from ≡ true = first have.passed.ordered in
      let at_second : is_place_of (take (length bare - from) (drop from bare)) start m ≡ true = second (order_part (length bare - from) (drop from bare) (order_rest from bare have.passed.ordered)) in
      let within : AreSpanned (get_or order.starts (get_or versions i 0) 0) (get_or order.ends (get_or versions i 0) 0) bare from (from + m) =
      spanned (get_or order.starts (get_or versions i 0) 0) (get_or order.ends (get_or versions i 0) 0) bare from m (subst (λ (x : ℕ). is_place_of bare x from ≡ true) is_stop at_first) (subst (λ (x : ℕ). is_place_of (take (length bare - from) (drop from bare)) x m ≡ true) is_start at_second) in
      let one : get_or versions i 0 + 1 ≡ suc (get_or versions i 0) = omega arith in
      subst (λ (x : ℕ). HaveHidden parents order versions (i + 1) (replaced bare from (from + m) (record { start = x; version = get_or versions i 0 })) hidden weights hidden_now weights_now) (sym is_start) (record {
        passed = passed_more parents tree order versions i bare have.passed n placed down below lt from (from + m) within;
        count = lost_more parents tree order versions i bare have.passed n placed down below lt from (from + m) within (λ u. 1) 1 refl hidden hidden_was hidden_now hidden_len have.count count;
        weight = lost_more parents tree order versions i bare have.passed n placed down below lt from (from + m) within suc (get_or versions i 0 + 1) one weights weights_was weights_now weights_len have.weight weight;
      })

pub version_below : (versions : List ℕ) (n i : ℕ) → list_all (λ u. ltb u n) versions ≡ true → i < length versions → get_or versions i 0 < n
version_below versions n i below lt = ltb-true (get_or versions i 0) n (all_at (λ u. ltb u n) (get_or versions i 0) versions below (among_at versions i 0 lt))

-- descending versions below n are at most n
pub few_versions : (versions : List ℕ) (n : ℕ) → descends versions ≡ true → list_all (λ u. ltb u n) versions ≡ true → length versions ≤ n
few_versions [] n down below = omega arith
few_versions (x ∷ xs) n down below =
    let parts = and_parts (list_all (λ u. ltb u x) xs) (descends xs) down in
    let lt : x < n = ltb-true x n (and_parts (ltb x n) (list_all (λ u. ltb u n) xs) below).0 in
    let rest : length xs ≤ x = few_versions xs x parts.1 parts.0 in
    omega arith
