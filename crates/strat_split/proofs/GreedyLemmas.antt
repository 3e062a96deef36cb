-- What the pass from the greatest version down leaves.
use Rattle.std.proofs.Common.{◌≡◌, ◌<◌, ◌≤◌, ◌+◌, ◌-◌, ℕ, zero, suc, true, false, cond, ltb, leb, ◌⊎◌, inl, inr, List, length, get_or, set, replicate, Option, Some, refl, sym, ap, ◌∙◌, subst, arith, unwrap_or}
use Rattle.std.proofs.lemmas.Bool.{and_parts, and_cases, ltb-true, ltb-false, leb-true, leb-false, cases_eq, cases_lt}
use Rattle.std.proofs.lemmas.List.{get_or-set_same, get_or-set_other, get_or-replicate, get_or_past, set_past, length-set, length-replicate}
use Rattle.std.specs.List.{slice_get}
use Rattle.std.proofs.lemmas.Option.{slice_get-get_or}
use Rattle.strat_base.specs.Tree.{Parents, parent_of, IsTree}
use Rattle.strat_base.proofs.ResultFacts.{option_cases}
use Rattle.strat_base.proofs.TreeLemmas.{parent_older, root_is_zero}
use Rattle.strat_tree.specs.Ancestor.{up}
use Rattle.strat_split.specs.Survey.{Told}
use Rattle.strat_split.specs.Greedy.{is_enough, fate_after, open_after, sums_taken, sums_after, sums_from, leads_of_rest, fate_of}
use Rattle.strat_split.specs.declared.gather.Fate.{Fate}
use Rattle.strat_split.specs.declared.gather.Fate.TheVariants.{Joins, Closes, Alone}

-- a version other than 0 has a parent
pub up_is : (parents : Parents) → IsTree parents → (v : ℕ) → 0 < v → v < length parents → (parent_of parents v ≡ Some (up parents v)) × (up parents v < v)
up_is parents tree v positive known = elim (option_cases (parent_of parents v)) [
  | inl none ↦ let zero' : v ≡ 0 = root_is_zero parents tree v known none in absurd (omega arith)
  | inr some ↦
      let older : some.0 < v = parent_older parents tree v some.0 some.1 in
      let is : up parents v ≡ some.0 = ap (λ (o : Option ℕ). unwrap_or o 0) some.1 in
      (some.1 ∙ ap (λ (p : ℕ). Some p) (sym is), omega arith)
]

pub up_less : (parents : Parents) → IsTree parents → (v : ℕ) → 0 < v → v < length parents → up parents v < v
up_less parents tree v positive known = (up_is parents tree v positive known).1

pub enough : (live leads : ℕ) → is_enough live leads ≡ true → (0 < leads) × (live ≤ leads)
enough live leads e = let parts = and_parts (ltb 0 leads) (leb live leads) e in (ltb-true 0 leads parts.0, leb-true live leads parts.1)

pub not_enough : (live leads : ℕ) → is_enough live leads ≡ false → leads ≤ live - 1
not_enough live leads e = elim (and_cases (ltb 0 leads) (leb live leads) e) [
  | inl none ↦ let zero' : leads ≤ 0 = ltb-false 0 leads none in omega arith
  | inr less ↦ let lt : leads < live = leb-false live leads less in omega arith
]

-- the cases of a version's fate
pub record IsAlone (rest sum live : ℕ) (fate : Fate) (after : ℕ) : Type 0 where
  pub fate_is : fate ≡ Alone rest
  pub after_is : after ≡ sum
  pub positive : 0 < rest
  pub many : live ≤ rest

pub record IsClosing (rest sum live : ℕ) (fate : Fate) (after : ℕ) : Type 0 where
  pub fate_is : fate ≡ Closes (sum + rest)
  pub after_is : after ≡ 0
  pub positive : 0 < sum + rest
  pub many : live ≤ sum + rest
  pub few : rest ≤ live - 1

pub record IsJoining (rest sum live : ℕ) (fate : Fate) (after : ℕ) : Type 0 where
  pub fate_is : fate ≡ Joins
  pub after_is : after ≡ sum + rest
  pub few : sum + rest ≤ live - 1

pub fate_cases : (rest sum live : ℕ) → IsAlone rest sum live (fate_after rest sum live) (open_after rest sum live)
    ⊎ (IsClosing rest sum live (fate_after rest sum live) (open_after rest sum live) ⊎ IsJoining rest sum live (fate_after rest sum live) (open_after rest sum live))
unfolding fate_after open_after
fate_cases rest sum live =
    elim (is_enough live rest) as (λ b. is_enough live rest ≡ b → IsAlone rest sum live (cond b (Alone rest) (cond (is_enough live (sum + rest)) (Closes (sum + rest)) Joins)) (cond b sum (cond (is_enough live (sum + rest)) 0 (sum + rest)))
    ⊎ (IsClosing rest sum live (cond b (Alone rest) (cond (is_enough live (sum + rest)) (Closes (sum + rest)) Joins)) (cond b sum (cond (is_enough live (sum + rest)) 0 (sum + rest)))
    ⊎ IsJoining rest sum live (cond b (Alone rest) (cond (is_enough live (sum + rest)) (Closes (sum + rest)) Joins)) (cond b sum (cond (is_enough live (sum + rest)) 0 (sum + rest))))) [
      | true ↦ λ e. let facts = enough live rest e in inl (record { fate_is = refl; after_is = refl; positive = facts.0; many = facts.1 })
      | false ↦ λ e. inr (elim (is_enough live (sum + rest)) as (λ b. is_enough live (sum + rest) ≡ b → IsClosing rest sum live (cond b (Closes (sum + rest)) Joins) (cond b 0 (sum + rest)) ⊎ IsJoining rest sum live (cond b (Closes (sum + rest)) Joins) (cond b 0 (sum + rest))) [
        | true ↦ λ f. let facts = enough live (sum + rest) f in inl (record { fate_is = refl; after_is = refl; positive = facts.0; many = facts.1; few = not_enough live rest e })
        | false ↦ λ f. inr (record { fate_is = refl; after_is = refl; few = not_enough live (sum + rest) f })
      ] refl)
    ] refl

after_low : (rest sum live : ℕ) → sum ≤ live - 1 → open_after rest sum live ≤ live - 1
after_low rest sum live low = elim (fate_cases rest sum live) [
  | inl alone ↦ let is = alone.after_is in omega arith
  | inr (inl closing) ↦ let is = closing.after_is in omega arith
  | inr (inr joining) ↦ let is = joining.after_is in let few = joining.few in omega arith
]

zeros_low : (n v m : ℕ) → get_or (replicate {A = ℕ} n 0) v 0 ≤ m
zeros_low n v m = elim (cases_lt v n) [
  | inl lt ↦ let at : get_or (replicate {A = ℕ} n 0) v 0 ≡ 0 = get_or-replicate n v 0 0 lt in omega arith
  | inr past ↦ let at : get_or (replicate {A = ℕ} n 0) v 0 ≡ 0 = get_or_past (replicate {A = ℕ} n 0) v 0 (omega (arith, length-replicate {A = ℕ} n 0)) in omega arith
]

set_low : (sums live : List ℕ) (p after v : ℕ) → ((w : ℕ) → get_or sums w 0 ≤ get_or live w 0 - 1) → after ≤ get_or live p 0 - 1 → get_or (set sums p after) v 0 ≤ get_or live v 0 - 1
set_low sums live p after v each low =
    let old : get_or sums v 0 ≤ get_or live v 0 - 1 = each v in
    elim (cases_lt p (length sums)) [
      | inl lt ↦
          elim (cases_eq v p) [
            | inl here ↦
                let at : get_or (set sums p after) p 0 ≡ after = get_or-set_same sums p after 0 lt in
                subst (λ (w : ℕ). get_or (set sums p after) w 0 ≤ get_or live w 0 - 1) (sym here) (omega arith)
            | inr apart ↦ let at : get_or (set sums p after) v 0 ≡ get_or sums v 0 = get_or-set_other sums p v after 0 apart in omega arith
          ]
      | inr past ↦ let at : get_or (set sums p after) v 0 ≡ get_or sums v 0 = ap (λ (xs : List ℕ). get_or xs v 0) (set_past sums p after past) in omega arith
    ]

module _ (t : Told) where
  pub length_sums : (k : ℕ) → length (sums_after t k) ≡ length t.own
  unfolding sums_after
  length_sums zero = length-replicate (length t.own) 0
  length_sums (suc k) = length-set (sums_after t k) (up t.parents (length t.own - suc k)) (open_after (get_or t.own (length t.own - suc k) 0 + get_or (sums_after t k) (length t.own - suc k) 0) (get_or (sums_after t k) (up t.parents (length t.own - suc k)) 0) (get_or t.live (up t.parents (length t.own - suc k)) 0)) ∙ length_sums k

  -- one version more
  pub sums_next : (c : ℕ) → c < length t.own → sums_from t c ≡ sums_taken t c (sums_from t (c + 1))
  unfolding sums_after
  sums_next c lt =
      ap (sums_after t) more ∙ ap (λ (v : ℕ). sums_taken t v (sums_after t (length t.own - (c + 1)))) back
    where
      more : length t.own - c ≡ suc (length t.own - (c + 1))
      more = omega arith

      back : length t.own - suc (length t.own - (c + 1)) ≡ c
      back = omega arith

  pub sums_end : (c : ℕ) → length t.own ≤ c → sums_from t c ≡ replicate (length t.own) 0
  unfolding sums_after
  sums_end c le = let none : length t.own - c ≡ 0 = omega arith in ap (sums_after t) none

  -- an open group is too small for a part
  pub sums_low : (k v : ℕ) → get_or (sums_after t k) v 0 ≤ get_or t.live v 0 - 1
  unfolding sums_after
  sums_low zero v = zeros_low (length t.own) v (get_or t.live v 0 - 1)
  sums_low (suc k) v =
      set_low (sums_after t k) t.live (up t.parents (length t.own - suc k)) (open_after (get_or t.own (length t.own - suc k) 0 + get_or (sums_after t k) (length t.own - suc k) 0) (get_or (sums_after t k) (up t.parents (length t.own - suc k)) 0) (get_or t.live (up t.parents (length t.own - suc k)) 0)) v (sums_low k)
      (after_low (get_or t.own (length t.own - suc k) 0 + get_or (sums_after t k) (length t.own - suc k) 0) (get_or (sums_after t k) (up t.parents (length t.own - suc k)) 0) (get_or t.live (up t.parents (length t.own - suc k)) 0) (sums_low k (up t.parents (length t.own - suc k))))

  -- the code's sums are small
  pub sums_small : (c v : ℕ) (sums : List ℕ) → ((w : ℕ) → get_or t.live w 0 ≤ 16777216) → sums ≡ sums_from t c → get_or sums v 0 ≤ 16777216
  sums_small c v sums small is =
      let low : get_or (sums_from t c) v 0 ≤ get_or t.live v 0 - 1 = sums_low (length t.own - c) v in
      let le = small v in
      subst (λ (xs : List ℕ). get_or xs v 0 ≤ 16777216) (sym is) (omega arith)

  pub sums_len : (c : ℕ) (sums : List ℕ) → sums ≡ sums_from t c → length sums ≡ length t.own
  sums_len c sums is = ap (λ (xs : List ℕ). length xs) is ∙ length_sums (length t.own - c)

  pub taken_is : (c p rest after : ℕ) (sums : List ℕ) → c < length t.own → sums ≡ sums_from t (c + 1) → p ≡ up t.parents c → rest ≡ leads_of_rest t c → after ≡ open_after rest (get_or sums p 0) (get_or t.live p 0) → set sums p after ≡ sums_from t c
  taken_is c p rest after sums lt sums_is p_is rest_is after_is = ap (set sums p) after_is
      ∙ (λ i. set (sums_is i) (p_is i) (open_after (rest_is i) (get_or (sums_is i) (p_is i) 0) (get_or t.live (p_is i) 0)))
      ∙ sym (sums_next c lt)

  pub fate_as : (c p rest : ℕ) (sums : List ℕ) (fate : Fate) → sums ≡ sums_from t (c + 1) → p ≡ up t.parents c → rest ≡ leads_of_rest t c → fate ≡ fate_after rest (get_or sums p 0) (get_or t.live p 0) → fate ≡ fate_of t c
  fate_as c p rest sums fate sums_is p_is rest_is fate_is = fate_is ∙ (λ i. fate_after (rest_is i) (get_or (sums_is i) (p_is i) 0) (get_or t.live (p_is i) 0))

  -- one more fate
  pub fates_more : (c : ℕ) (fates : List Fate) (fate : Fate) → c < length t.own → length fates ≡ length t.own → fate ≡ fate_of t c → ((v : ℕ) → c + 1 ≤ v → v < length t.own → slice_get fates v ≡ Some (fate_of t v))
      → (v : ℕ) → c ≤ v → v < length t.own → slice_get (set fates c fate) v ≡ Some (fate_of t v)
  fates_more c fates fate lt len fate_is each v le under =
      let len' : length (set fates c fate) ≡ length fates = length-set fates c fate in
      slice_get-get_or (set fates c fate) v fate (omega arith) ∙ elim (cases_eq v c) [
        | inl here ↦ ap (λ (w : ℕ). Some (get_or (set fates c fate) w fate)) here ∙ ap (λ (f : Fate). Some f) (get_or-set_same fates c fate fate (omega arith) ∙ fate_is) ∙ ap (λ (w : ℕ). Some (fate_of t w)) (sym here)
        | inr apart ↦ ap (λ (f : Fate). Some f) (get_or-set_other fates c v fate fate apart) ∙ sym (slice_get-get_or fates v fate (omega arith)) ∙ each v (omega (arith, apart)) under
      ]
