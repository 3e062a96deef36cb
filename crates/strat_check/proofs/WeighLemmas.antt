-- What a version sees of keys, told from what its parent sees, what it has and what it hides.
use Rattle.std.proofs.Common.{◌≡◌, ◌<◌, ◌≤◌, ◌+◌, ◌*◌, ℕ, Bool, true, false, cond, eqb, ltb, ◌||◌, inl, inr, List, [], ◌∷◌, length, Option, Some, None, refl, sym, ap, ◌∙◌, arith, true≢false}
use Rattle.std.specs.List.{list_any, list_all, find, sum_by, count_by}
use Rattle.std.specs.Option.{option_map_or}
use Rattle.std.proofs.lemmas.Bool.{cases_Bool, and_parts, ltb-true, eqb-true, eq-eqb, false_from_ne_true}
use Rattle.std.proofs.lemmas.List.Sums.{sum_by-cons, sum_by-le-sum_by, count_by-le-length}
use Rattle.std.proofs.Math.Nat.{add-mul, one-mul, zero-mul}
use Rattle.strat_base.specs.Order.{descends}
use Rattle.strat_base.specs.Tree.{Parents, parent_of, is_ancestor, IsTree}
use Rattle.strat_base.proofs.ListFacts.{Among, any_among, any_from, all_at, find_some}
use Rattle.strat_base.proofs.ResultFacts.{option_cases}
use Rattle.strat_base.proofs.TreeLemmas.{parent_older, path_le, on_root, on_path, from_path, self_on_path, ancestor_among, among_ancestor}
use Rattle.def_state.specs.Counted.{own_at, sees_one, keys_at}
use Rattle.def_split.proofs.CountedLemmas.{sum_same}
use Rattle.strat_check.specs.Sightings.{versions_added, weight_at, weight_above, weight_lost, lost_sum}
use Rattle.strat_check.proofs.HideLemmas.{find_nothing}

find_alike : {X : Type 0} (p q : X → Bool) (xs : List X) → ((x : X) → Among x xs → p x ≡ q x) → find p xs ≡ find q xs
find_alike p q [] each = refl
find_alike {X} p q (x ∷ xs) each =
    ap (λ (b : Bool). cond b (Some x) (find p xs)) (each x (inl refl))
    ∙ ap (λ (o : Option X). cond (q x) (Some x) o) (find_alike p q xs (λ y among. each y (inr among)))

-- a number stands once among those that descend
counted_once : (versions : List ℕ) (v : ℕ) → descends versions ≡ true → count_by (λ u. eqb u v) versions ≡ cond (list_any (λ u. eqb u v) versions) 1 0
counted_once [] v down = refl
counted_once (x ∷ xs) v down =
    let parts = and_parts (list_all (λ u. ltb u x) xs) (descends xs) down in
    let whole = sum_by-cons (λ u. cond (eqb u v) 1 0) x xs in
    let rest = counted_once xs v parts.1 in
    elim (cases_Bool (eqb x v)) [
      | inl here ↦
          let none : list_any (λ u. eqb u v) xs ≡ false = false_from_ne_true (list_any (λ u. eqb u v) xs) (λ again.
          let found = any_among (λ u. eqb u v) xs again in
          let less = ltb-true found.0 x (all_at (λ u. ltb u x) found.0 xs parts.0 found.1) in
          let same = eqb-true x v here in
          let is = eqb-true found.0 v found.2 in
          omega (arith, less, same, is)) in
          let a = ap {B = ℕ} (λ (b : Bool). cond b 1 0) here in
          let b = ap {B = ℕ} (λ (b : Bool). cond b 1 0) none in
          let c = ap {B = ℕ} (λ (b : Bool). cond (b || list_any (λ u. eqb u v) xs) 1 0) here in
          omega (arith, whole, rest, a, b, c)
      | inr apart ↦
          let a = ap {B = ℕ} (λ (b : Bool). cond b 1 0) apart in
          let c = ap {B = ℕ} (λ (b : Bool). cond (b || list_any (λ u. eqb u v) xs) 1 0) apart in
          omega (arith, whole, rest, a, c)
    ]

sum_zero : {X : Type 0} (xs : List X) → sum_by (λ x. 0) xs ≡ 0
sum_zero [] = refl
sum_zero {X} (x ∷ xs) = let rest = sum_zero xs in let whole = sum_by-cons (λ (y : X). 0) x xs in omega (arith, rest, whole)

found_any : {X : Type 0} (p : X → Bool) (xs : List X) → ◌≡◌ {A = ℕ} (option_map_or (λ x. 1) (find p xs) 0) (cond (list_any p xs) 1 0)
found_any p [] = refl
found_any {X} p (x ∷ xs) =
    elim (p x) as (λ b. ◌≡◌ {A = ℕ} (option_map_or (λ y. 1) (cond b (Some x) (find p xs)) 0) (cond (b || list_any p xs) 1 0)) [
      | true ↦ refl
      | false ↦ found_any p xs
    ]

-- how many keys are seen is what they weigh if each weighs 1
pub keys_weighed : (parents : Parents) (groups : List (List ℕ)) (v : ℕ) → sum_by (weight_at parents (λ u. 1) v) groups ≡ keys_at parents groups v
keys_weighed parents groups v = sum_same (weight_at parents (λ u. 1) v) (λ versions. cond (sees_one parents v versions) 1 0) groups (λ versions among. found_any (λ u. is_ancestor parents u v) versions)

module _ (parents : Parents) (tree : IsTree parents) (weight : ℕ → ℕ) where
  -- a version with an entry of its own sees that one
  own_found : (versions : List ℕ) (v : ℕ) → descends versions ≡ true → list_any (λ u. eqb u v) versions ≡ true → find (λ u. is_ancestor parents u v) versions ≡ Some v
  own_found [] v down any = absurd (true≢false (sym any))
  own_found (x ∷ xs) v down any =
      let parts = and_parts (list_all (λ u. ltb u x) xs) (descends xs) down in
      elim (cases_Bool (eqb x v)) [
        | inl here ↦
            let same : x ≡ v = eqb-true x v here in
            ap (λ (b : Bool). cond b (Some x) (find (λ u. is_ancestor parents u v) xs)) (ap (λ (w : ℕ). is_ancestor parents w v) same ∙ among_ancestor parents tree v v (self_on_path parents tree v))
            ∙ ap (λ (w : ℕ). Some w) same
        | inr apart ↦
            let rest : list_any (λ u. eqb u v) xs ≡ true = sym (ap (λ (b : Bool). b || list_any (λ u. eqb u v) xs) apart) ∙ any in
            let found = any_among (λ u. eqb u v) xs rest in
            let less = ltb-true found.0 x (all_at (λ u. ltb u x) found.0 xs parts.0 found.1) in
            let is = eqb-true found.0 v found.2 in
            let off : is_ancestor parents x v ≡ false = false_from_ne_true (is_ancestor parents x v) (λ up.
            let le = path_le parents tree x v (ancestor_among parents tree x v up) in
            omega (arith, less, is, le)) in
            ap (λ (b : Bool). cond b (Some x) (find (λ u. is_ancestor parents u v) xs)) off ∙ own_found xs v parts.1 rest
      ]

  -- without one it sees what its parent sees
  none_own : (versions : List ℕ) (v : ℕ) → list_any (λ u. eqb u v) versions ≡ false → weight_at parents weight v versions ≡ weight_above parents weight v versions
  none_own versions v none =
      let other : (u : ℕ) → Among u versions → u ≡ v → ⊥ = λ u among same. true≢false (sym (any_from (λ w. eqb w v) v versions (subst_among u v versions same among) (eq_self v)) ∙ none) in
      elim (option_cases (parent_of parents v)) [
        | inl root ↦
            ap (λ (o : Option ℕ). option_map_or weight o 0) (find_nothing (λ u. is_ancestor parents u v) versions (λ u among.
            false_from_ne_true (is_ancestor parents u v) (λ up. other u among (on_root parents tree u v root (ancestor_among parents tree u v up)))))
            ∙ sym (ap (λ (o : Option ℕ). option_map_or (λ p. weight_at parents weight p versions) o 0) root)
        | inr some ↦
            ap (λ (o : Option ℕ). option_map_or weight o 0) (find_alike (λ u. is_ancestor parents u v) (λ u. is_ancestor parents u some.0) versions (λ u among.
            same_up u v some.0 some.1 (other u among)))
            ∙ sym (ap (λ (o : Option ℕ). option_map_or (λ p. weight_at parents weight p versions) o 0) some.1)
      ]
    where
      subst_among : (u v : ℕ) (us : List ℕ) → u ≡ v → Among u us → Among v us
      subst_among u v us same among = rw (← same) among

      eq_self : (v : ℕ) → eqb v v ≡ true
      eq_self v = eq-eqb v v refl

      same_up : (u v p : ℕ) → parent_of parents v ≡ Some p → (u ≡ v → ⊥) → is_ancestor parents u v ≡ is_ancestor parents u p
      same_up u v p some apart =
          elim (cases_Bool (is_ancestor parents u p)) [
            | inl up ↦ among_ancestor parents tree u v (from_path parents tree u v p some (inr (ancestor_among parents tree u p up))) ∙ sym up
            | inr off ↦
                false_from_ne_true (is_ancestor parents u v) (λ on.
                elim (on_path parents tree u v p some (ancestor_among parents tree u v on)) [
                  | inl same ↦ apart same
                  | inr there ↦ true≢false (sym (among_ancestor parents tree u p there) ∙ off)
                ])
                ∙ sym off
          ]

  key_step : (versions : List ℕ) (v : ℕ) → descends versions ≡ true → weight_at parents weight v versions + weight_lost parents weight v versions ≡ weight_above parents weight v versions + count_by (λ u. eqb u v) versions * weight v
  key_step versions v down =
      let once = ap (λ (k : ℕ). k * weight v) (counted_once versions v down) in
      elim (cases_Bool (list_any (λ u. eqb u v) versions)) [
        | inl any ↦
            let at = ap (λ (o : Option ℕ). option_map_or weight o 0) (own_found versions v down any) in
            let lost = ap (λ (b : Bool). cond b (weight_above parents weight v versions) 0) any in
            let one = ap {B = ℕ} (λ (b : Bool). cond b 1 0 * weight v) any in
            let single = one-mul (weight v) in
            omega (arith, once, at, lost, one, single)
        | inr none ↦
            let at = none_own versions v none in
            let lost = ap (λ (b : Bool). cond b (weight_above parents weight v versions) 0) none in
            let nothing = ap {B = ℕ} (λ (b : Bool). cond b 1 0 * weight v) none in
            let zero' = zero-mul (weight v) in
            omega (arith, once, at, lost, nothing, zero')
      ]

  keys_step : (groups : List (List ℕ)) (v : ℕ) → list_all descends groups ≡ true
      → sum_by (weight_at parents weight v) groups + lost_sum parents weight groups v ≡ sum_by (weight_above parents weight v) groups + own_at groups v * weight v
  keys_step [] v down = let none = zero-mul (weight v) in omega (arith, none)
  keys_step (group ∷ groups) v down =
      let parts = and_parts (descends group) (list_all descends groups) down in
      let here = key_step group v parts.0 in
      let rest = keys_step groups v parts.1 in
      let a = sum_by-cons (weight_at parents weight v) group groups in
      let b = sum_by-cons (weight_lost parents weight v) group groups in
      let c = sum_by-cons (weight_above parents weight v) group groups in
      let d = ap (λ (k : ℕ). k * weight v) (sum_by-cons (λ versions. count_by (λ u. eqb u v) versions) group groups) in
      let e = add-mul (count_by (λ u. eqb u v) group) (own_at groups v) (weight v) in
      omega (arith, here, rest, a, b, c, d, e)

  pub root_step : (groups : List (List ℕ)) (v : ℕ) → list_all descends groups ≡ true → parent_of parents v ≡ None
      → sum_by (weight_at parents weight v) groups + lost_sum parents weight groups v ≡ own_at groups v * weight v
  root_step groups v down none =
      let step = keys_step groups v down in
      let nothing : sum_by (weight_above parents weight v) groups ≡ 0 = ap (λ (o : Option ℕ). sum_by (λ versions. option_map_or (λ p. weight_at parents weight p versions) o 0) groups) none ∙ sum_zero groups in
      omega (arith, step, nothing)

  pub up_step : (groups : List (List ℕ)) (v p : ℕ) → list_all descends groups ≡ true → parent_of parents v ≡ Some p
      → sum_by (weight_at parents weight v) groups + lost_sum parents weight groups v ≡ sum_by (weight_at parents weight p) groups + own_at groups v * weight v
  up_step groups v p down some =
      let step = keys_step groups v down in
      let above : sum_by (weight_above parents weight v) groups ≡ sum_by (weight_at parents weight p) groups = ap (λ (o : Option ℕ). sum_by (λ versions. option_map_or (λ q. weight_at parents weight q versions) o 0) groups) some in
      omega (arith, step, above)

-- bounds

pub own_le : (groups : List (List ℕ)) (v : ℕ) → own_at groups v ≤ versions_added groups
own_le groups v = sum_by-le-sum_by (λ versions. count_by (λ u. eqb u v) versions) (λ versions. length versions) groups (λ versions. count_by-le-length (λ u. eqb u v) versions)

sum_scaled : (f : List ℕ → ℕ) (groups : List (List ℕ)) → ((versions : List ℕ) → f versions ≤ length versions * 16384) → sum_by f groups ≤ versions_added groups * 16384
sum_scaled f [] each = omega arith
sum_scaled f (group ∷ groups) each =
    let here = each group in
    let rest = sum_scaled f groups each in
    let a = sum_by-cons f group groups in
    let b = sum_by-cons (λ (versions : List ℕ). length versions) group groups in
    omega (arith, here, rest, a, b)

module _ (parents : Parents) (tree : IsTree parents) (weight : ℕ → ℕ) (n : ℕ) (light : (u : ℕ) → u < n → weight u ≤ 16384) where
  at_light : (v : ℕ) → v < n → (versions : List ℕ) → weight_at parents weight v versions ≤ 16384
  at_light v lt versions =
      elim (option_cases (find (λ u. is_ancestor parents u v) versions)) [
        | inl none ↦ let is = ap (λ (o : Option ℕ). option_map_or weight o 0) none in omega (arith, is)
        | inr some ↦
            let is = ap (λ (o : Option ℕ). option_map_or weight o 0) some.1 in
            let found = find_some (λ u. is_ancestor parents u v) versions some.0 some.1 in
            let le = path_le parents tree some.0 v (ancestor_among parents tree some.0 v found.1) in
            let small = light some.0 (omega (arith, le, lt)) in
            omega (arith, is, small)
      ]

  at_small : (v : ℕ) → v < n → (versions : List ℕ) → weight_at parents weight v versions ≤ length versions * 16384
  at_small v lt [] = omega arith
  at_small v lt (x ∷ xs) = let small = at_light v lt (x ∷ xs) in omega (arith, small)

  above_light : (v : ℕ) → v < n → (versions : List ℕ) → weight_above parents weight v versions ≤ 16384
  above_light v lt versions =
      elim (option_cases (parent_of parents v)) [
        | inl none ↦ let is = ap (λ (o : Option ℕ). option_map_or (λ p. weight_at parents weight p versions) o 0) none in omega (arith, is)
        | inr some ↦
            let is = ap (λ (o : Option ℕ). option_map_or (λ p. weight_at parents weight p versions) o 0) some.1 in
            let older = parent_older parents tree v some.0 some.1 in
            let small = at_light some.0 (omega (arith, older, lt)) versions in
            omega (arith, is, small)
      ]

  lost_small : (v : ℕ) → v < n → (versions : List ℕ) → weight_lost parents weight v versions ≤ length versions * 16384
  lost_small v lt [] = omega arith
  lost_small v lt (x ∷ xs) =
      let small = above_light v lt (x ∷ xs) in
      elim (list_any (λ u. eqb u v) (x ∷ xs)) as (λ b. cond b (weight_above parents weight v (x ∷ xs)) 0 ≤ length (x ∷ xs) * 16384) [
        | true ↦ omega (arith, small)
        | false ↦ omega arith
      ]

  pub at_bound : (groups : List (List ℕ)) (v : ℕ) → v < n → sum_by (weight_at parents weight v) groups ≤ versions_added groups * 16384
  at_bound groups v lt = sum_scaled (weight_at parents weight v) groups (at_small v lt)

  pub lost_bound : (groups : List (List ℕ)) (v : ℕ) → v < n → lost_sum parents weight groups v ≤ versions_added groups * 16384
  lost_bound groups v lt = sum_scaled (weight_lost parents weight v) groups (lost_small v lt)
