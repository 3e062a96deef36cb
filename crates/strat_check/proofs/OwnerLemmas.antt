-- A table of the places that own each version, filled tag by tag.
use Rattle.std.proofs.Common.{◌≡◌, ◌<◌, ◌≤◌, ◌+◌, ℕ, zero, suc, Bool, true, false, cond, eqb, ltb, ◌&&◌, ◌||◌, inl, inr, List, [], ◌∷◌, ◌++◌, length, map, take, drop, set, get_or, refl, sym, ap, ◌∙◌, subst, arith}
use Rattle.std.specs.List.{list_all, flat_map}
use Rattle.std.proofs.lemmas.Bool.{ltb-true, lt-ltb, le-ltb, eq-eqb, ne_eqb, cases_lt, cases_Bool, cases_eq}
use Rattle.std.proofs.lemmas.List.{append-nil, take_all, drop_all, take_more, get_or-set_same, get_or-set_other}
use Rattle.std.proofs.lemmas.List.Folds.{list_any-append}
use Rattle.strat_base.specs.Entries.{is_tagged}
use Rattle.strat_base.proofs.ListFacts.{Among, all_at, among_right}
use Rattle.def_state.specs.Level.{is_distinct}
use Rattle.def_state.proofs.LevelLemmas.{tagged_among, distinct_behind}
use Rattle.def_split.proofs.ListLemmas.{distinct_head, distinct_tail}

pub get_among : {X : Type 0} (xs : List X) (i : ℕ) (d : X) → i < length xs → Among (get_or xs i d) xs
get_among [] i d low = absurd (omega arith)
get_among (x ∷ xs) zero d low = inl refl
get_among (x ∷ xs) (suc i) d low = inr (get_among xs i d (omega arith))

-- one more version of a tag
pub claimed_more : (start owners tag : List ℕ) (place i v : ℕ) → i < length tag → v ≡ get_or tag i v → list_all (λ w. ltb w (length start)) tag ≡ true → length owners ≡ length start
    → ((u : ℕ) → u < length start → get_or owners u 0 ≡ cond (is_tagged (take i tag) u) place (get_or start u 0))
    → (u : ℕ) → u < length start → get_or (set owners v place) u 0 ≡ cond (is_tagged (take (i + 1) tag) u) place (get_or start u 0)
claimed_more start owners tag place i v within is low size before u known =
    let among : Among v tag = subst (λ (w : ℕ). Among w tag) (sym is) (get_among tag i v within) in
    let small : v < length start = ltb-true v (length start) (all_at (λ w. ltb w (length start)) v tag low among) in
    let more : is_tagged (take (i + 1) tag) u ≡ (is_tagged (take i tag) u || (eqb v u || false)) =
    ap (λ (vs : List ℕ). is_tagged vs u) (take_more tag i v within ∙ ap (λ (w : ℕ). take i tag ++ w ∷ []) (sym is)) ∙ list_any-append (λ w. eqb w u) (take i tag) (v ∷ []) in
    elim (cases_eq v u) [
      | inl same ↦
          let here : get_or (set owners v place) u 0 ≡ place = ap (λ (w : ℕ). get_or (set owners v place) w 0) (sym same) ∙ get_or-set_same owners v place 0 (omega (arith, small, size)) in
          let yes' : is_tagged (take (i + 1) tag) u ≡ true = more ∙ ap (λ (b : Bool). is_tagged (take i tag) u || (b || false)) (eq-eqb v u same) ∙ or_true (is_tagged (take i tag) u) in
          here ∙ sym (ap (λ (b : Bool). cond b place (get_or start u 0)) yes')
      | inr apart ↦
          let there = get_or-set_other owners v u place 0 (λ e. apart (sym e)) in
          let same : is_tagged (take (i + 1) tag) u ≡ is_tagged (take i tag) u = more ∙ ap (λ (b : Bool). is_tagged (take i tag) u || (b || false)) (ne_eqb v u apart) ∙ or_false (is_tagged (take i tag) u) in
          there ∙ before u known ∙ sym (ap (λ (b : Bool). cond b place (get_or start u 0)) same)
    ]
  where
    or_true : (b : Bool) → (b || true) ≡ true
    or_true true = refl
    or_true false = refl

    or_false : (b : Bool) → (b || false) ≡ b
    or_false true = refl
    or_false false = refl

module _ {X : Type 0} (f : X → List ℕ) where
  tags_meet : (vs ws : List ℕ) (u : ℕ) → is_distinct (vs ++ ws) ≡ true → Among u vs → Among u ws → ⊥
  tags_meet [] ws u apart mine its = absurd mine
  tags_meet (v ∷ vs) ws u apart (inl here) its = distinct_head v (vs ++ ws) apart (subst (λ (n : ℕ). Among n (vs ++ ws)) here (among_right vs ws u its))
  tags_meet (v ∷ vs) ws u apart (inr there) its = tags_meet vs ws u (distinct_tail v (vs ++ ws) apart) there its

  -- a tag, by its place
  pub tag_at : (xs : List X) (i : ℕ) (x : X) → i < length xs → x ≡ get_or xs i x → get_or (map f xs) i [] ≡ f x
  tag_at [] i x within is = absurd (omega arith)
  tag_at (y ∷ xs) zero x within is = ap f (sym is)
  tag_at (y ∷ xs) (suc i) x within is = tag_at xs i x (omega arith) is

  no_tag : (xs : List X) (i : ℕ) → length xs ≤ i → get_or (map f xs) i [] ≡ []
  no_tag [] i past = refl
  no_tag (y ∷ xs) zero past = absurd (omega arith)
  no_tag (y ∷ xs) (suc i) past = no_tag xs i (omega arith)

  flat_at : (xs : List X) (i u : ℕ) → Among u (get_or (map f xs) i []) → Among u (flat_map f xs)
  flat_at [] i u here = absurd here
  flat_at (y ∷ xs) zero u here = left (f y) here
    where
      left : (vs : List ℕ) → Among u vs → Among u (vs ++ flat_map f xs)
      left [] among = absurd among
      left (v ∷ vs) (inl same) = inl same
      left (v ∷ vs) (inr there) = inr (left vs there)
  flat_at (y ∷ xs) (suc i) u here = among_right (f y) (flat_map f xs) u (flat_at xs i u here)

  -- no version is in the tags of two places
  one_tag : (xs : List X) → is_distinct (flat_map f xs) ≡ true → (k i u : ℕ) → k < i → Among u (get_or (map f xs) k []) → Among u (get_or (map f xs) i []) → ⊥
  one_tag [] apart k i u less mine its = absurd mine
  one_tag (y ∷ xs) apart zero zero u less mine its = absurd (omega arith)
  one_tag (y ∷ xs) apart zero (suc i) u less mine its = tags_meet (f y) (flat_map f xs) u apart mine (flat_at xs i u its)
  one_tag (y ∷ xs) apart (suc k) zero u less mine its = absurd (omega arith)
  one_tag (y ∷ xs) apart (suc k) (suc i) u less mine its = one_tag xs (distinct_behind (f y) (flat_map f xs) apart) k i u (omega arith) mine its

  -- the places that own versions by the first tags
  pub record AreOwnersTo (xs : List X) (i : ℕ) (owners : List ℕ) : Type 0 where
    pub each : (u k : ℕ) → u < length owners → k < 16384 → eqb (get_or owners u 0) k ≡ (ltb k i && is_tagged (get_or (map f xs) k []) u)

  pub owned_none : (xs : List X) (n : ℕ) (owners : List ℕ) → length owners ≡ n → ((u : ℕ) → u < n → get_or owners u 0 ≡ 4294967295) → AreOwnersTo xs 0 owners
  owned_none xs n owners size none = record {
    each = λ u k known low.
        let at = none u (omega (arith, known, size)) in
        ne_eqb (get_or owners u 0) k (λ same. absurd (omega (arith, same, at, low)))
        ∙ sym (ap (λ (b : Bool). b && is_tagged (get_or (map f xs) k []) u) (le-ltb k 0 (omega arith)));
  }

  pub owned_all : (xs : List X) (i : ℕ) (owners : List ℕ) → length xs ≤ i → AreOwnersTo xs i owners
      → (u k : ℕ) → u < length owners → k < 16384 → eqb (get_or owners u 0) k ≡ is_tagged (get_or (map f xs) k []) u
  owned_all xs i owners past to u k known low =
      to.each u k known low
      ∙ elim (cases_lt k i) [
        | inl less ↦ ap (λ (b : Bool). b && is_tagged (get_or (map f xs) k []) u) (lt-ltb k i less)
        | inr over ↦
            ap (λ (b : Bool). b && is_tagged (get_or (map f xs) k []) u) (le-ltb k i over)
            ∙ sym (ap (λ (vs : List ℕ). is_tagged vs u) (no_tag xs k (omega (arith, past, over))))
      ]

  -- one more tag
  pub owned_more : (xs : List X) → is_distinct (flat_map f xs) ≡ true → (i : ℕ) (x : X) (owners next : List ℕ) → i < length xs → x ≡ get_or xs i x → length next ≡ length owners
      → ((u : ℕ) → u < length owners → get_or next u 0 ≡ cond (is_tagged (f x) u) i (get_or owners u 0)) → AreOwnersTo xs i owners → AreOwnersTo xs (i + 1) next
  owned_more xs apart i x owners next within is size claims to = record {
    each = λ u k known low.
        let here : u < length owners = omega (arith, known, size) in
        let tag : get_or (map f xs) i [] ≡ f x = tag_at xs i x within is in
        ap (λ (n : ℕ). eqb n k) (claims u here)
        ∙ elim (cases_Bool (is_tagged (f x) u)) [
          | inl yes' ↦
              ap (λ (b : Bool). eqb (cond b i (get_or owners u 0)) k) yes'
              ∙ elim (cases_lt k i) [
                | inl less ↦
                    let off : is_tagged (get_or (map f xs) k []) u ≡ false = untagged (get_or (map f xs) k []) u (λ mine.
                    one_tag xs apart k i u less mine (subst (λ (vs : List ℕ). Among u vs) (sym tag) (tagged_among (f x) u yes'))) in
                    ne_eqb i k (λ same. absurd (omega (arith, same, less))) ∙ sym (ap (λ (b : Bool). ltb k (i + 1) && b) off ∙ and_off (ltb k (i + 1)))
                | inr over ↦
                    elim (cases_eq i k) [
                      | inl same ↦
                          let on : is_tagged (get_or (map f xs) k []) u ≡ true = ap (λ (n : ℕ). is_tagged (get_or (map f xs) n []) u) (sym same) ∙ ap (λ (vs : List ℕ). is_tagged vs u) tag ∙ yes' in
                          eq-eqb i k same ∙ sym (ap (λ (b : Bool). b && is_tagged (get_or (map f xs) k []) u) (lt-ltb k (i + 1) (omega (arith, same))) ∙ on)
                      | inr other ↦
                          let past : i + 1 ≤ k = elim (cases_lt i k) [ inl less ↦ omega (arith, less) | inr le ↦ absurd (other (omega (arith, le, over))) ] in
                          ne_eqb i k other ∙ sym (ap (λ (b : Bool). b && is_tagged (get_or (map f xs) k []) u) (le-ltb k (i + 1) past))
                    ]
              ]
          | inr no' ↦
              ap (λ (b : Bool). eqb (cond b i (get_or owners u 0)) k) no'
              ∙ to.each u k here low
              ∙ elim (cases_eq i k) [
                | inl same ↦
                    let off : is_tagged (get_or (map f xs) k []) u ≡ false = ap (λ (n : ℕ). is_tagged (get_or (map f xs) n []) u) (sym same) ∙ ap (λ (vs : List ℕ). is_tagged vs u) tag ∙ no' in
                    ap (λ (b : Bool). ltb k i && b) off ∙ and_off (ltb k i) ∙ sym (ap (λ (b : Bool). ltb k (i + 1) && b) off ∙ and_off (ltb k (i + 1)))
                | inr other ↦
                    elim (cases_lt k i) [
                      | inl less ↦ ap (λ (b : Bool). b && is_tagged (get_or (map f xs) k []) u) (lt-ltb k i less ∙ sym (lt-ltb k (i + 1) (omega (arith, less))))
                      | inr over ↦
                          let past : i + 1 ≤ k = elim (cases_lt i k) [ inl less ↦ omega (arith, less) | inr le ↦ absurd (other (omega (arith, le, over))) ] in
                          ap (λ (b : Bool). b && is_tagged (get_or (map f xs) k []) u) (le-ltb k i over ∙ sym (le-ltb k (i + 1) past))
                    ]
              ]
        ];
  }
    where
      and_off : (b : Bool) → (b && false) ≡ false
      and_off true = refl
      and_off false = refl

      untagged : (vs : List ℕ) (u : ℕ) → (Among u vs → ⊥) → is_tagged vs u ≡ false
      untagged vs u none = elim (cases_Bool (is_tagged vs u)) [ inl yes' ↦ absurd (none (tagged_among vs u yes')) | inr no' ↦ no' ]

-- a slice of all items of a vector is written back whole
pub put_back : {X : Type 0} (items new : List X) (len : ℕ) → len ≡ length items → length new ≡ length items → take len (new ++ drop (length new) items) ≡ new
put_back {X} items new len size same =
    ap (λ (xs : List X). take len (new ++ xs)) (drop_all (length new) items (omega (arith, same)))
    ∙ ap (λ (xs : List X). take len xs) (append-nil new)
    ∙ take_all len new (omega (arith, size, same))

pub same_default : {X : Type 0} (xs : List X) (i : ℕ) (d e : X) → i < length xs → get_or xs i d ≡ get_or xs i e
same_default [] i d e low = absurd (omega arith)
same_default (x ∷ xs) zero d e low = refl
same_default (x ∷ xs) (suc i) d e low = same_default xs i d e (omega arith)
