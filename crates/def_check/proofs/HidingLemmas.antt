-- One pass from the greatest version down finds of each version the nearest above it.
use Rattle.std.proofs.Common.{◌≡◌, ◌≤◌, ◌+◌, ◌*◌, ℕ, suc, Bool, true, false, cond, eqb, ltb, ◌||◌, not, inl, inr, List, [], ◌∷◌, ◌++◌, map, filter, Some, refl, sym, ap, ◌∙◌, subst, arith, true≢false}
use Rattle.std.specs.List.{list_any, list_all, find}
use Rattle.std.specs.Option.{option_map_or}
use Rattle.std.proofs.lemmas.Bool.{eqb-true, eq-eqb, ltb-true, and_parts, cases_Bool, false_from_ne_true}
use Rattle.std.proofs.lemmas.List.Sums.{sum_by-cons, sum_by-append}
use Rattle.std.proofs.Math.Nat.{add-mul, one-mul, zero-mul, mul-zero}
use Rattle.strat_base.specs.Tree.{Parents, parent_of, is_ancestor, IsTree}
use Rattle.strat_base.proofs.ListFacts.{all_at, any_among}
use Rattle.strat_base.proofs.TreeLemmas.{path_up, path_le, ancestor_among, parent_older}
use Rattle.def_check.specs.Hiding.{hidings, weight_hidden}
use Rattle.strat_base.specs.Order.{descends}
use Rattle.def_check.specs.Weights.{nearest_at}

-- how often a number stands in a list
times : ℕ → List ℕ → ℕ
times v [] = 0
times v (t ∷ ts) = cond (eqb t v) 1 0 + times v ts

module _ (parents : Parents) where
  -- what a version hides among those that come behind it
  inner : ℕ → List ℕ → ℕ
  inner v [] = 0
  inner v (u ∷ us) = cond (eqb u v) (nearest_at parents v us) 0 + inner v us

  pairs_weigh : (v u : ℕ) (bare : List ℕ) → weight_hidden v (map (λ t. (t, u)) (filter (is_ancestor parents u) bare)) ≡ times v bare * cond (is_ancestor parents u v) (suc u) 0
  unfolding times
  pairs_weigh v u [] = sym (zero-mul (cond (is_ancestor parents u v) (suc u) 0))
  pairs_weigh v u (t ∷ bare) =
      let rest = pairs_weigh v u bare in
      let made : List ℕ → List (ℕ × ℕ) = λ ts. map (λ s. (s, u)) ts in
      let split = add-mul (cond (eqb t v) 1 0) (times v bare) (cond (is_ancestor parents u v) (suc u) 0) in
      go (is_ancestor parents u t) refl (eqb t v) refl rest split
    where
      go : (a : Bool) → is_ancestor parents u t ≡ a → (b : Bool) → eqb t v ≡ b
          → weight_hidden v (map (λ s. (s, u)) (filter (is_ancestor parents u) bare)) ≡ times v bare * cond (is_ancestor parents u v) (suc u) 0
          → (cond (eqb t v) 1 0 + times v bare) * cond (is_ancestor parents u v) (suc u) 0 ≡ cond (eqb t v) 1 0 * cond (is_ancestor parents u v) (suc u) 0 + times v bare * cond (is_ancestor parents u v) (suc u) 0
          → weight_hidden v (map (λ s. (s, u)) (cond a (t ∷ filter (is_ancestor parents u) bare) (filter (is_ancestor parents u) bare))) ≡ (cond b 1 0 + times v bare) * cond (is_ancestor parents u v) (suc u) 0
      go true is true same rest split =
          let here : t ≡ v = eqb-true t v same in
          let up : is_ancestor parents u v ≡ true = ap (is_ancestor parents u) (sym here) ∙ is in
          let whole = sum_by-cons (λ (x : ℕ × ℕ). cond (eqb x.0 v) (suc x.1) 0) (t, u) (map (λ s. (s, u)) (filter (is_ancestor parents u) bare)) in
          let first = ap {B = ℕ} (λ (b : Bool). cond b (suc u) 0) same in
          let lot = ap {B = ℕ} (λ (b : Bool). cond b (suc u) 0) up in
          let one = ap {B = ℕ} (λ (b : Bool). cond b 1 0) same in
          let parts = add-mul 1 (times v bare) (cond (is_ancestor parents u v) (suc u) 0) in
          let single = one-mul (cond (is_ancestor parents u v) (suc u) 0) in
          omega (arith, rest, whole, first, lot, parts, single)
      go true is false same rest split =
          let whole = sum_by-cons (λ (x : ℕ × ℕ). cond (eqb x.0 v) (suc x.1) 0) (t, u) (map (λ s. (s, u)) (filter (is_ancestor parents u) bare)) in
          let first = ap {B = ℕ} (λ (b : Bool). cond b (suc u) 0) same in
          let none : 0 + times v bare ≡ times v bare = omega arith in
          whole ∙ (λ i. first i + rest i) ∙ omega arith ∙ ap (λ (n : ℕ). n * cond (is_ancestor parents u v) (suc u) 0) (sym none)
      go false is true same rest split =
          let here : t ≡ v = eqb-true t v same in
          let up : is_ancestor parents u v ≡ false = ap (is_ancestor parents u) (sym here) ∙ is in
          let lot : cond (is_ancestor parents u v) (suc u) 0 ≡ 0 = ap {B = ℕ} (λ (b : Bool). cond b (suc u) 0) up in
          rest ∙ ap (λ (n : ℕ). times v bare * n) lot ∙ mul-zero (times v bare) ∙ sym (ap (λ (n : ℕ). (1 + times v bare) * n) lot ∙ mul-zero (1 + times v bare))
      go false is false same rest split =
          let none : 0 + times v bare ≡ times v bare = omega arith in
          rest ∙ ap (λ (n : ℕ). n * cond (is_ancestor parents u v) (suc u) 0) (sym none)

  left_times : (v u : ℕ) (bare : List ℕ) → times v (filter (λ t. not (is_ancestor parents u t)) bare) ≡ cond (is_ancestor parents u v) 0 (times v bare)
  unfolding times
  left_times v u [] = elim (is_ancestor parents u v) as (λ b. ◌≡◌ {A = ℕ} 0 (cond b 0 0)) [ true ↦ refl | false ↦ refl ]
  left_times v u (t ∷ bare) = go (is_ancestor parents u t) refl (eqb t v) refl (left_times v u bare)
    where
      go : (a : Bool) → is_ancestor parents u t ≡ a → (b : Bool) → eqb t v ≡ b
          → times v (filter (λ s. not (is_ancestor parents u s)) bare) ≡ cond (is_ancestor parents u v) 0 (times v bare)
          → times v (cond (not a) (t ∷ filter (λ s. not (is_ancestor parents u s)) bare) (filter (λ s. not (is_ancestor parents u s)) bare)) ≡ cond (is_ancestor parents u v) 0 (cond b 1 0 + times v bare)
      go true is true same rest =
          let here : t ≡ v = eqb-true t v same in
          let up : is_ancestor parents u v ≡ true = ap (is_ancestor parents u) (sym here) ∙ is in
          rest ∙ ap {B = ℕ} (λ (b : Bool). cond b 0 (times v bare)) up ∙ sym (ap {B = ℕ} (λ (b : Bool). cond b 0 (1 + times v bare)) up)
      go true is false same rest = let none : 0 + times v bare ≡ times v bare = omega arith in rest ∙ ap (λ (n : ℕ). cond (is_ancestor parents u v) 0 n) (sym none)
      go false is true same rest =
          let here : t ≡ v = eqb-true t v same in
          let up : is_ancestor parents u v ≡ false = ap (is_ancestor parents u) (sym here) ∙ is in
          let one = ap {B = ℕ} (λ (b : Bool). cond b 1 0) same in
          let a = ap {B = ℕ} (λ (b : Bool). cond b 0 (times v bare)) up in
          let c = ap {B = ℕ} (λ (b : Bool). cond b 0 (1 + times v bare)) up in
          omega (arith, rest, one, a, c)
      go false is false same rest =
          let one = ap {B = ℕ} (λ (b : Bool). cond b 1 0) same in
          let none : 0 + times v bare ≡ times v bare = omega arith in
          let a = ap (λ (n : ℕ). cond (is_ancestor parents u v) 0 n) none in
          omega (arith, rest, one, a)

  -- each version hides the first behind it that is above it, once for each time that it stands among those that are bare
  all_hidden : (v : ℕ) (us bare : List ℕ) → weight_hidden v (hidings parents bare us) ≡ times v bare * nearest_at parents v us + inner v us
  unfolding hidings inner times
  all_hidden v [] bare = let none = mul-zero (times v bare) in omega (arith, none)
  all_hidden v (u ∷ us) bare =
      let joined = sum_by-append (λ (x : ℕ × ℕ). cond (eqb x.0 v) (suc x.1) 0) (map (λ t. (t, u)) (filter (is_ancestor parents u) bare)) (hidings parents (u ∷ filter (λ t. not (is_ancestor parents u t)) bare) us) in
      let first = pairs_weigh v u bare in
      let rest = all_hidden v us (u ∷ filter (λ t. not (is_ancestor parents u t)) bare) in
      let left = left_times v u bare in
      step joined first rest left
    where
      step : weight_hidden v (map (λ t. (t, u)) (filter (is_ancestor parents u) bare) ++ hidings parents (u ∷ filter (λ t. not (is_ancestor parents u t)) bare) us)
          ≡ weight_hidden v (map (λ t. (t, u)) (filter (is_ancestor parents u) bare)) + weight_hidden v (hidings parents (u ∷ filter (λ t. not (is_ancestor parents u t)) bare) us)
          → weight_hidden v (map (λ t. (t, u)) (filter (is_ancestor parents u) bare)) ≡ times v bare * cond (is_ancestor parents u v) (suc u) 0
          → weight_hidden v (hidings parents (u ∷ filter (λ t. not (is_ancestor parents u t)) bare) us) ≡ times v (u ∷ filter (λ t. not (is_ancestor parents u t)) bare) * nearest_at parents v us + inner v us
          → times v (filter (λ t. not (is_ancestor parents u t)) bare) ≡ cond (is_ancestor parents u v) 0 (times v bare)
          → weight_hidden v (map (λ t. (t, u)) (filter (is_ancestor parents u) bare) ++ hidings parents (u ∷ filter (λ t. not (is_ancestor parents u t)) bare) us)
          ≡ times v bare * nearest_at parents v (u ∷ us) + (cond (eqb u v) (nearest_at parents v us) 0 + inner v us)
      step joined first rest left =
          let near : ℕ = nearest_at parents v us in
          let apart = add-mul (cond (eqb u v) 1 0) (times v (filter (λ t. not (is_ancestor parents u t)) bare)) near in
          let own : cond (eqb u v) 1 0 * near ≡ cond (eqb u v) near 0 = elim (eqb u v) as (λ b. cond b 1 0 * near ≡ cond b near 0) [ true ↦ one-mul near | false ↦ zero-mul near ] in
          elim (cases_Bool (is_ancestor parents u v)) [
            | inl up ↦
                let a : times v bare * cond (is_ancestor parents u v) (suc u) 0 ≡ times v bare * suc u = ap (λ (b : Bool). times v bare * cond b (suc u) 0) up in
                let b : times v (filter (λ t. not (is_ancestor parents u t)) bare) * near ≡ 0 = ap (λ (n : ℕ). n * near) (left ∙ ap {B = ℕ} (λ (b : Bool). cond b 0 (times v bare)) up) ∙ zero-mul near in
                let c : times v bare * nearest_at parents v (u ∷ us) ≡ times v bare * suc u =
                ap (λ (b : Bool). times v bare * option_map_or suc (cond b (Some u) (find (λ w. is_ancestor parents w v) us)) 0) up in
                omega (arith, joined, first, rest, apart, own, a, b, c)
            | inr off ↦
                let a : times v bare * cond (is_ancestor parents u v) (suc u) 0 ≡ 0 = ap (λ (b : Bool). times v bare * cond b (suc u) 0) off ∙ mul-zero (times v bare) in
                let b : times v (filter (λ t. not (is_ancestor parents u t)) bare) * near ≡ times v bare * near = ap (λ (n : ℕ). n * near) (left ∙ ap {B = ℕ} (λ (b : Bool). cond b 0 (times v bare)) off) in
                let c : times v bare * nearest_at parents v (u ∷ us) ≡ times v bare * near =
                ap (λ (b : Bool). times v bare * option_map_or suc (cond b (Some u) (find (λ w. is_ancestor parents w v) us)) 0) off in
                omega (arith, joined, first, rest, apart, own, a, b, c)
          ]

  module _ (tree : IsTree parents) (v p : ℕ) (some : parent_of parents v ≡ Some p) where
    above : (w : ℕ) → eqb w v ≡ false → is_ancestor parents w v ≡ is_ancestor parents w p
    above w apart =
        ap (list_any (λ x. eqb x w)) (path_up parents tree v p some)
        ∙ ap (λ (b : Bool). b || is_ancestor parents w p) (false_from_ne_true (eqb v w) (λ same. true≢false (sym (eq-eqb w v (sym (eqb-true v w same))) ∙ apart)))

    not_above : (w : ℕ) → v ≤ w → is_ancestor parents w p ≡ false
    not_above w le = false_from_ne_true (is_ancestor parents w p) (λ up.
        let low = path_le parents tree w p (ancestor_among parents tree w p up) in
        let older = parent_older parents tree v p some in
        absurd (omega (arith, le, low, older)))

    none_inner : (us : List ℕ) → list_all (λ u. ltb u v) us ≡ true → inner v us ≡ 0
    unfolding inner
    none_inner [] all = refl
    none_inner (u ∷ us) all =
        let parts = and_parts (ltb u v) (list_all (λ w. ltb w v) us) all in
        let rest = none_inner us parts.1 in
        let less = ltb-true u v parts.0 in
        let off : cond (eqb u v) (nearest_at parents v us) 0 ≡ 0 = ap {B = ℕ} (λ (b : Bool). cond b (nearest_at parents v us) 0) (false_from_ne_true (eqb u v) (λ same. let is : u ≡ v = eqb-true u v same in absurd (omega (arith, less, is)))) in
        omega (arith, rest, off)

    near_parent : (us : List ℕ) → list_all (λ u. ltb u v) us ≡ true → nearest_at parents v us ≡ nearest_at parents p us
    near_parent [] all = refl
    near_parent (u ∷ us) all =
        let parts = and_parts (ltb u v) (list_all (λ w. ltb w v) us) all in
        let less = ltb-true u v parts.0 in
        let apart : eqb u v ≡ false = false_from_ne_true (eqb u v) (λ same. let is : u ≡ v = eqb-true u v same in absurd (omega (arith, less, is))) in
        elim (cases_Bool (is_ancestor parents u p)) [
          | inl up ↦
              ap (λ (b : Bool). option_map_or suc (cond b (Some u) (find (λ w. is_ancestor parents w v) us)) 0) (above u apart ∙ up)
              ∙ sym (ap (λ (b : Bool). option_map_or suc (cond b (Some u) (find (λ w. is_ancestor parents w p) us)) 0) up)
          | inr off ↦
              ap (λ (b : Bool). option_map_or suc (cond b (Some u) (find (λ w. is_ancestor parents w v) us)) 0) (above u apart ∙ off)
              ∙ near_parent us parts.1
              ∙ sym (ap (λ (b : Bool). option_map_or suc (cond b (Some u) (find (λ w. is_ancestor parents w p) us)) 0) off)
        ]

    off_parent : (u : ℕ) (us : List ℕ) → v ≤ u → nearest_at parents p (u ∷ us) ≡ nearest_at parents p us
    off_parent u us le = ap (λ (b : Bool). option_map_or suc (cond b (Some u) (find (λ w. is_ancestor parents w p) us)) 0) (not_above u le)

    inner_lost : (us : List ℕ) → descends us ≡ true → inner v us ≡ cond (list_any (λ u. eqb u v) us) (nearest_at parents p us) 0
    unfolding inner
    inner_lost [] down = refl
    inner_lost (u ∷ us) down =
        let parts = and_parts (list_all (λ w. ltb w u) us) (descends us) down in
        elim (cases_Bool (eqb u v)) [
          | inl same ↦
              let is : u ≡ v = eqb-true u v same in
              let all : list_all (λ w. ltb w v) us ≡ true = subst (λ (x : ℕ). list_all (λ w. ltb w x) us ≡ true) is parts.0 in
              let none = none_inner us all in
              let near = near_parent us all in
              let off = off_parent u us (omega (arith, is)) in
              let a = ap {B = ℕ} (λ (b : Bool). cond b (nearest_at parents v us) 0) same in
              let b = ap {B = ℕ} (λ (b : Bool). cond (b || list_any (λ w. eqb w v) us) (nearest_at parents p (u ∷ us)) 0) same in
              omega (arith, none, near, off, a, b)
          | inr apart ↦
              let rest = inner_lost us parts.1 in
              let a = ap {B = ℕ} (λ (b : Bool). cond b (nearest_at parents v us) 0) apart in
              let b = ap {B = ℕ} (λ (b : Bool). cond (b || list_any (λ w. eqb w v) us) (nearest_at parents p (u ∷ us)) 0) apart in
              elim (cases_Bool (list_any (λ w. eqb w v) us)) [
                | inl there ↦
                    let found = any_among (λ w. eqb w v) us there in
                    let less = ltb-true found.0 u (all_at (λ w. ltb w u) found.0 us parts.0 found.1) in
                    let is : found.0 ≡ v = eqb-true found.0 v found.2 in
                    let off = off_parent u us (omega (arith, less, is)) in
                    let c = ap {B = ℕ} (λ (b : Bool). cond b (nearest_at parents p us) 0) there in
                    let d = ap {B = ℕ} (λ (b : Bool). cond b (nearest_at parents p (u ∷ us)) 0) there in
                    omega (arith, rest, off, a, b, c, d)
                | inr none ↦
                    let c = ap {B = ℕ} (λ (b : Bool). cond b (nearest_at parents p us) 0) none in
                    let d = ap {B = ℕ} (λ (b : Bool). cond b (nearest_at parents p (u ∷ us)) 0) none in
                    omega (arith, rest, a, b, c, d)
              ]
        ]

    pub hidden_is_lost : (us : List ℕ) → descends us ≡ true → weight_hidden v (hidings parents [] us) ≡ cond (list_any (λ u. eqb u v) us) (nearest_at parents p us) 0
    unfolding times
    hidden_is_lost us down =
        let all = all_hidden v us [] in
        let none = zero-mul (nearest_at parents v us) in
        let lost = inner_lost us down in
        omega (arith, all, none, lost)
