-- The arrays of a plan's parts are new arrays.
use Rattle.std.proofs.Common.{◌≡◌, ◌≤◌, ◌<◌, ◌+◌, ℕ, zero, suc, Bool, true, false, cond, eqb, ltb, get_or, inl, inr, List, [], ◌∷◌, length, map, Some, refl, sym, ap, ◌∙◌, arith}
use Rattle.std.specs.List.{filter, range_with_len, slice_get}
use Rattle.std.proofs.lemmas.Bool.{and_from, lt-ltb}
use Rattle.std.proofs.lemmas.Option.{slice_get_within}
use Rattle.strat_base.specs.Tree.{Parents}
use Rattle.strat_base.specs.declared.descriptors.ArrayDesc.{ArrayDesc}
use Rattle.strat_base.proofs.ListFacts.{Among, each_from, range_among, filter_among}
use Rattle.def_bytes.specs.Manifest.{is_rising, first_version}
use Rattle.def_split.specs.Plan.{Plan, horizon_of, part_of, members, IsSplit}
use Rattle.def_split.proofs.PlannedLemmas.{member_of, of_member}
use Rattle.def_publish.specs.Next.{IsNewArray, AreNewArrays, AreArraysOf}

-- numbers above a bound that ascend behind it
abbrev StartsAbove : ℕ → List ℕ → Type 0
StartsAbove low [] = Unit {0}
StartsAbove low (x ∷ xs) = low ≤ x

rising_cons : (x : ℕ) (xs : List ℕ) → StartsAbove (suc x) xs → is_rising xs ≡ true → is_rising (x ∷ xs) ≡ true
rising_cons x [] above rising = refl
rising_cons x (y ∷ xs) above rising = and_from (ltb x y) (is_rising (y ∷ xs)) (lt-ltb x y above) rising

-- of ascending numbers those that pass a test ascend
filtered_above : (p : ℕ → Bool) (a n low : ℕ) → low ≤ a → StartsAbove low (filter p (range_with_len a n))
filtered_above p a zero low le = tt
filtered_above p a (suc n) low le =
    elim (p a) as (λ b. StartsAbove low (cond b (a ∷ filter p (range_with_len (a + 1) n)) (filter p (range_with_len (a + 1) n)))) [
      | true ↦ le
      | false ↦ filtered_above p (a + 1) n low (omega (arith, le))
    ]

filtered_rising : (p : ℕ → Bool) (a n : ℕ) → is_rising (filter p (range_with_len a n)) ≡ true
filtered_rising p a zero = refl
filtered_rising p a (suc n) =
    elim (p a) as (λ b. is_rising (cond b (a ∷ filter p (range_with_len (a + 1) n)) (filter p (range_with_len (a + 1) n))) ≡ true) [
      | true ↦ rising_cons a (filter p (range_with_len (a + 1) n)) (filtered_above p (a + 1) n (suc a) (omega arith)) (filtered_rising p (a + 1) n)
      | false ↦ filtered_rising p (a + 1) n
    ]

-- and the first of them is the least
filtered_least : (p : ℕ → Bool) (a n v : ℕ) → Among v (filter p (range_with_len a n)) → get_or (filter p (range_with_len a n)) 0 0 ≤ v
filtered_least p a zero v among = absurd among
filtered_least p a (suc n) v among =
    elim (p a) as (λ b. Among v (cond b (a ∷ filter p (range_with_len (a + 1) n)) (filter p (range_with_len (a + 1) n))) → get_or (cond b (a ∷ filter p (range_with_len (a + 1) n)) (filter p (range_with_len (a + 1) n))) 0 0 ≤ v) [
      | true ↦ λ here. elim here [
        | inl same ↦ omega (arith, same)
        | inr there ↦ let above = range_among (a + 1) n v (filter_among p (range_with_len (a + 1) n) v there).0 in omega (arith, above.0)
      ]
      | false ↦ λ there. filtered_least p (a + 1) n v there
    ] among

-- lists by their places
rising_by_place : (f : ArrayDesc → ℕ) (rs : List ArrayDesc) → ((i : ℕ) (a b : ArrayDesc) → slice_get rs i ≡ Some a → slice_get rs (suc i) ≡ Some b → f a < f b) → is_rising (map f rs) ≡ true
rising_by_place f [] each = refl
rising_by_place f (a ∷ []) each = refl
rising_by_place f (a ∷ b ∷ rs) each =
    and_from (ltb (f a) (f b)) (is_rising (map f (b ∷ rs))) (lt-ltb (f a) (f b) (each 0 a b refl refl)) (rising_by_place f (b ∷ rs) (λ i x y one other. each (suc i) x y one other))

range_by_place : (f : ArrayDesc → ℕ) (first : ℕ) (rs : List ArrayDesc) → ((q : ℕ) (a : ArrayDesc) → slice_get rs q ≡ Some a → f a ≡ first + q) → map f rs ≡ range_with_len first (length rs)
range_by_place f first [] each = refl
range_by_place f first (a ∷ rs) each =
    let here : f a ≡ first = omega (arith, each 0 a refl) in
    let rest = range_by_place f (first + 1) rs (λ q b at. omega (arith, each (suc q) b at)) in
    λ i. here i ∷ rest i

place_of : (rs : List ArrayDesc) (a : ArrayDesc) → Among a rs → (q : ℕ) × (slice_get rs q ≡ Some a)
place_of [] a among = absurd among
place_of (b ∷ rs) a (inl here) = (0, ap (λ (x : ArrayDesc). Some x) (sym here))
place_of (b ∷ rs) a (inr there) = let found = place_of rs a there in (suc found.0, found.1)

among_some : (xs : List ℕ) (x : ℕ) → Among x xs → 1 ≤ length xs
among_some [] x among = absurd among
among_some (y ∷ xs) x among = omega arith

first_among : (xs : List ℕ) → 1 ≤ length xs → Among (get_or xs 0 0) xs
first_among [] some = absurd (omega (arith, some))
first_among (x ∷ xs) some = inl refl

module _ (parents : Parents) (own live : ℕ → ℕ) (plan : Plan) (first : ℕ) (arrays : List ArrayDesc) (split : IsSplit parents own live plan) (are : AreArraysOf plan first arrays) where
  tagged : (q : ℕ) → q < length plan.parts → 1 ≤ length (members plan q)
  tagged q lt = let v = split.attained q lt in among_some (members plan q) v.0 (member_of plan q v.0 v.1 v.2)

  within : (q : ℕ) (a : ArrayDesc) → slice_get arrays q ≡ Some a → q < length plan.parts
  within q a at = omega (arith, slice_get_within arrays q a at, are.len)

  one_new : (q : ℕ) (a : ArrayDesc) → slice_get arrays q ≡ Some a → IsNewArray a
  one_new q a at =
      let is = are.each q a at in
      let lt = within q a at in
      record {
        tagged = omega (arith, tagged q lt, ap length is.versions);
        rising = ap is_rising is.versions ∙ filtered_rising (λ v. eqb (part_of plan v) q) 0 (horizon_of plan);
        counted = omega (arith, split.some q lt, is.entries);
        lawful = is.lawful;
        apart = is.apart;
      }

  -- parts are numbered by their first versions, so arrays stand in their order
  next_first : (q : ℕ) (a b : ArrayDesc) → slice_get arrays q ≡ Some a → slice_get arrays (suc q) ≡ Some b → first_version a < first_version b
  next_first q a b one other =
      let lt = within (suc q) b other in
      let w : ℕ = get_or (members plan (suc q)) 0 0 in
      let there = of_member plan (suc q) w (first_among (members plan (suc q)) (tagged (suc q) lt)) in
      let before = split.numbered q (suc q) w (omega arith) lt there.0 there.1 in
      let u : ℕ = before.0 in
      let low = filtered_least (λ v. eqb (part_of plan v) q) 0 (horizon_of plan) u (member_of plan q u (omega (arith, before.1, there.0)) before.2) in
      omega (arith, low, before.1, ap (λ (vs : List ℕ). get_or vs 0 0) (are.each q a one).versions, ap (λ (vs : List ℕ). get_or vs 0 0) (are.each (suc q) b other).versions)

  pub arrays_new : AreNewArrays first arrays
  arrays_new = record {
    numbered = range_by_place (λ a. a.id) first arrays (λ q a at. (are.each q a at).id);
    ordered = rising_by_place first_version arrays next_first;
    each = each_from IsNewArray arrays (λ a among. let at = place_of arrays a among in one_new at.0 a at.1);
  }
