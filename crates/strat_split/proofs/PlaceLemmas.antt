-- A version placed as its fate says.
use Rattle.std.proofs.Common.{◌≡◌, ◌<◌, ◌≤◌, ◌+◌, ◌-◌, ◌*◌, ℕ, Bool, true, false, eqb, inl, inr, List, [], ◌∷◌, ◌++◌, length, get_or, set, replicate, Some, None, refl, sym, ap, ◌∙◌, subst, arith}
use Rattle.std.proofs.lemmas.Bool.{eq-eqb, ne_eqb, cases_eq}
use Rattle.std.proofs.lemmas.List.{get_or-set_same, get_or-set_other, get_or-replicate, length-set, length-replicate}
use Rattle.strat_base.specs.Tree.{IsTree}
use Rattle.strat_tree.specs.Ancestor.{up}
use Rattle.def_split.specs.Plan.{in_no_part}
use Rattle.strat_split.specs.Survey.{Told, AreCounted}
use Rattle.strat_split.specs.Greedy.{sums_from, leads_of_rest, fate_of, open_after, fate_after}
use Rattle.strat_split.specs.Placing.{nth_part, part_sum, part_below, top_part, IsFit, IsServed, IsSoFar, IsPlaced}
use Rattle.strat_split.specs.declared.parts.Part.{Part}
use Rattle.strat_split.specs.declared.gather.Fate.{Fate}
use Rattle.strat_split.specs.declared.gather.Fate.TheVariants.{Joins, Closes, Alone}
use Rattle.strat_split.proofs.SumLemmas.{taken, part_sum_change, part_sum_same, part_sum_none}
use Rattle.strat_split.proofs.GreedyLemmas.{up_is, length_sums, sums_next, sums_low, sums_small, fate_cases, IsAlone, IsClosing, IsJoining}
use Rattle.strat_split.proofs.PlacingLemmas.{sums_off, join_step, begin_step}

-- what a fate says of the sums
joining_of : (rest sum live after : ℕ) (fate : Fate) → fate ≡ fate_after rest sum live → after ≡ open_after rest sum live → fate ≡ Joins → IsJoining rest sum live fate after
joining_of rest sum live after fate fate_is after_is is = elim (fate_cases rest sum live) [
  | inl alone ↦ let no' : Joins ≡ Alone rest = sym is ∙ fate_is ∙ alone.fate_is in absurd (cc)
  | inr (inl closing) ↦ let no' : Joins ≡ Closes (sum + rest) = sym is ∙ fate_is ∙ closing.fate_is in absurd (cc)
  | inr (inr joining) ↦ record { fate_is = is; after_is = after_is ∙ joining.after_is; few = joining.few }
]

closing_of : (rest sum live after leads : ℕ) (fate : Fate) → fate ≡ fate_after rest sum live → after ≡ open_after rest sum live → fate ≡ Closes leads → IsClosing rest sum live fate after × (leads ≡ sum + rest)
closing_of rest sum live after leads fate fate_is after_is is = elim (fate_cases rest sum live) [
  | inl alone ↦ let no' : Closes leads ≡ Alone rest = sym is ∙ fate_is ∙ alone.fate_is in absurd (cc)
  | inr (inl closing) ↦
      let same : Closes leads ≡ Closes (sum + rest) = sym is ∙ fate_is ∙ closing.fate_is in
      (record { fate_is = fate_is ∙ closing.fate_is; after_is = after_is ∙ closing.after_is; positive = closing.positive; many = closing.many; few = closing.few }, cc)
  | inr (inr joining) ↦ let no' : Closes leads ≡ Joins = sym is ∙ fate_is ∙ joining.fate_is in absurd (cc)
]

alone_of : (rest sum live after leads : ℕ) (fate : Fate) → fate ≡ fate_after rest sum live → after ≡ open_after rest sum live → fate ≡ Alone leads → IsAlone rest sum live fate after × (leads ≡ rest)
alone_of rest sum live after leads fate fate_is after_is is = elim (fate_cases rest sum live) [
  | inl alone ↦
      let same : Alone leads ≡ Alone rest = sym is ∙ fate_is ∙ alone.fate_is in
      (record { fate_is = fate_is ∙ alone.fate_is; after_is = after_is ∙ alone.after_is; positive = alone.positive; many = alone.many }, cc)
  | inr (inl closing) ↦ let no' : Alone leads ≡ Closes (sum + rest) = sym is ∙ fate_is ∙ closing.fate_is in absurd (cc)
  | inr (inr joining) ↦ let no' : Alone leads ≡ Joins = sym is ∙ fate_is ∙ joining.fate_is in absurd (cc)
]

module _ (t : Told) (c p : ℕ) (tree : IsTree t.parents) (fits : length t.own ≤ length t.parents) (positive : 0 < c) (lt : c < length t.own) (p_is : p ≡ up t.parents c) where
  p_less : p < c
  p_less = let less = (up_is t.parents tree c positive (omega arith)).1 in omega arith

  -- the sum of the parent's open group once c is taken
  sum_after : get_or (sums_from t c) p 0 ≡ open_after (leads_of_rest t c) (get_or (sums_from t (c + 1)) p 0) (get_or t.live p 0)
  sum_after =
      let len : length (sums_from t (c + 1)) ≡ length t.own = length_sums t (length t.own - (c + 1)) in
      let less = p_less in
      ap (λ (xs : List ℕ). get_or xs p 0) (sums_next t c lt) ∙ (λ i. get_or (set (sums_from t (c + 1)) (sym p_is i) (open_after (leads_of_rest t c) (get_or (sums_from t (c + 1)) (sym p_is i) 0) (get_or t.live (sym p_is i) 0))) p 0) ∙ get_or-set_same (sums_from t (c + 1)) p (open_after (leads_of_rest t c) (get_or (sums_from t (c + 1)) p 0) (get_or t.live p 0)) 0 (omega arith)

  fate_at : (fate : Fate) → fate ≡ fate_of t c → fate ≡ fate_after (leads_of_rest t c) (get_or (sums_from t (c + 1)) p 0) (get_or t.live p 0)
  fate_at fate is = is ∙ (λ i. fate_after (leads_of_rest t c) (get_or (sums_from t (c + 1)) (sym p_is i) 0) (get_or t.live (sym p_is i) 0))

  joining : Joins ≡ fate_of t c → IsJoining (leads_of_rest t c) (get_or (sums_from t (c + 1)) p 0) (get_or t.live p 0) Joins (get_or (sums_from t c) p 0)
  joining is = joining_of (leads_of_rest t c) (get_or (sums_from t (c + 1)) p 0) (get_or t.live p 0) (get_or (sums_from t c) p 0) Joins (fate_at Joins is) sum_after refl

  closing : (leads : ℕ) → Closes leads ≡ fate_of t c → IsClosing (leads_of_rest t c) (get_or (sums_from t (c + 1)) p 0) (get_or t.live p 0) (Closes leads) (get_or (sums_from t c) p 0) × (leads ≡ get_or (sums_from t (c + 1)) p 0 + leads_of_rest t c)
  closing leads is = closing_of (leads_of_rest t c) (get_or (sums_from t (c + 1)) p 0) (get_or t.live p 0) (get_or (sums_from t c) p 0) leads (Closes leads) (fate_at (Closes leads) is) sum_after refl

  alone : (leads : ℕ) → Alone leads ≡ fate_of t c → IsAlone (leads_of_rest t c) (get_or (sums_from t (c + 1)) p 0) (get_or t.live p 0) (Alone leads) (get_or (sums_from t c) p 0) × (leads ≡ leads_of_rest t c)
  alone leads is = alone_of (leads_of_rest t c) (get_or (sums_from t (c + 1)) p 0) (get_or t.live p 0) (get_or (sums_from t c) p 0) leads (Alone leads) (fate_at (Alone leads) is) sum_after refl

  -- leads are few enough for a sum
  module _ (own_small : (v : ℕ) → get_or t.own v 0 ≤ 16777216) (small : (v : ℕ) → get_or t.live v 0 ≤ 16777216) where
    rest_small : leads_of_rest t c ≤ 33554432
    rest_small =
        let a = own_small c in
        let b : get_or (sums_from t (c + 1)) c 0 ≤ 16777216 = sums_small t (c + 1) c (sums_from t (c + 1)) small refl in
        omega arith

    pub closes_small : (leads : ℕ) → Closes leads ≡ fate_of t c → leads ≤ 67108864
    closes_small leads is =
        let facts = closing leads is in
        let same = facts.1 in
        let a = rest_small in
        let b : get_or (sums_from t (c + 1)) p 0 ≤ 16777216 = sums_small t (c + 1) p (sums_from t (c + 1)) small refl in
        omega arith

    pub alone_small : (leads : ℕ) → Alone leads ≡ fate_of t c → leads ≤ 67108864
    alone_small leads is = let facts = alone leads is in let same = facts.1 in let a = rest_small in omega arith

module _ (t : Told) (lawful : AreCounted t) (c p : ℕ) (labels joins : List ℕ) (parts : List Part) (positive : 0 < c) (lt : c < length t.own) (far : IsSoFar t c labels joins parts) (p_is : p ≡ up t.parents c) where
  below : p < c
  below = p_less t c p lawful.tree lawful.fits positive lt p_is

  pub placed_joins : Joins ≡ fate_of t c → IsSoFar t (c + 1) (set labels c (get_or joins p 0)) (set joins c (get_or joins p 0)) parts
  placed_joins is =
      let facts = joining t c p lawful.tree lawful.fits positive lt p_is is in
      join_step t lawful c p labels joins parts positive lt far p_is (get_or joins p 0) refl facts.after_is facts.few

  live_up : get_or t.live p 0 ≤ get_or t.live c 0
  live_up = lawful.grows c p lt ((up_is t.parents lawful.tree c positive (omega (arith, lawful.fits))).0 ∙ ap (λ (v : ℕ). Some v) (sym p_is))

  -- no version has the number of a part that isn't there yet
  unused : (v : ℕ) → v < c → get_or joins v 0 ≡ length parts → ⊥
  unused v under is =
      let few' = far.few in
      let few'' = lawful.few in
      elim (far.joins_served v under) [
        | inl there ↦ let x = there.0 in omega arith
        | inr out ↦ let x : get_or joins v 0 ≡ in_no_part = out.0 in omega arith
      ]

  pub placed_alone : (leads : ℕ) → Alone leads ≡ fate_of t c → IsSoFar t (c + 1) (set labels c (length parts)) (set joins c (length parts)) (parts ++ part_below t p c leads ∷ [])
  placed_alone leads is =
      let facts = alone t c p lawful.tree lawful.fits positive lt p_is leads is in
      let case' = facts.0 in
      let leads_is = facts.1 in
      let many = case'.many in
      let some = case'.positive in
      let after = case'.after_is in
      let up = live_up in
      let held = lawful.held c lt in
      let low : get_or (sums_from t (c + 1)) c 0 ≤ get_or t.live c 0 - 1 = sums_low t (length t.own - (c + 1)) c in
      begin_step t lawful c p labels joins parts positive lt far p_is (part_below t p c leads) joins refl refl refl (omega arith) (omega arith) (omega arith) far.joins_len (λ v under. inl refl)
      (λ r is_part. part_sum_same r joins joins (sums_from t c) (sums_from t (c + 1)) c (λ v under. (
        refl,
        elim (cases_eq v p) [
          | inl here ↦ ap (λ (w : ℕ). get_or (sums_from t (c + 1)) w 0) here ∙ sym after ∙ ap (λ (w : ℕ). get_or (sums_from t c) w 0) (sym here)
          | inr apart ↦ sym (sums_off t c v lt (λ e. apart (e ∙ sym p_is)))
        ],
      )))
      (let none : part_sum (length parts) joins (sums_from t (c + 1)) c ≡ 0 = part_sum_none (length parts) joins (sums_from t (c + 1)) c unused in omega arith)

  pub placed_closes : (leads : ℕ) → Closes leads ≡ fate_of t c → IsSoFar t (c + 1) (set labels c (length parts)) (set (set joins p (length parts)) c (length parts)) (parts ++ part_below t p c leads ∷ [])
  placed_closes leads is =
      let facts = closing t c p lawful.tree lawful.fits positive lt p_is leads is in
      let case' = facts.0 in
      let leads_is = facts.1 in
      let many = case'.many in
      let some = case'.positive in
      let few' = case'.few in
      let up = live_up in
      let low : get_or (sums_from t (c + 1)) p 0 ≤ get_or t.live p 0 - 1 = sums_low t (length t.own - (c + 1)) p in
      begin_step t lawful c p labels joins parts positive lt far p_is (part_below t p c leads) (set joins p (length parts)) refl refl refl (omega arith) (omega arith) (omega arith) (length-set joins p (length parts) ∙ far.joins_len)
      (λ v under. elim (cases_eq v p) [
        | inl here ↦ inr (here, ap (λ (w : ℕ). get_or (set joins p (length parts)) w 0) here ∙ at_p, omega arith)
        | inr apart ↦ inl (get_or-set_other joins p v (length parts) 0 apart)
      ])
      (λ r is_part.
      let changed : part_sum r (set joins p (length parts)) (sums_from t (c + 1)) c + taken (eqb (get_or joins p 0) r) (get_or (sums_from t c) p 0) ≡ part_sum r joins (sums_from t c) c + taken (eqb (get_or (set joins p (length parts)) p 0) r) (get_or (sums_from t (c + 1)) p 0) = change r in
      let x : taken (eqb (get_or joins p 0) r) (get_or (sums_from t c) p 0) ≡ 0 = ap (taken (eqb (get_or joins p 0) r)) case'.after_is ∙ nothing (eqb (get_or joins p 0) r) in
      let y : taken (eqb (get_or (set joins p (length parts)) p 0) r) (get_or (sums_from t (c + 1)) p 0) ≡ 0 = ap (λ (b : Bool). taken b (get_or (sums_from t (c + 1)) p 0)) (ap (λ (l : ℕ). eqb l r) at_p ∙ ne_eqb (length parts) r (λ e. omega (arith, e))) in
      omega arith)
      (let changed : part_sum (length parts) (set joins p (length parts)) (sums_from t (c + 1)) c + taken (eqb (get_or joins p 0) (length parts)) (get_or (sums_from t c) p 0) ≡ part_sum (length parts) joins (sums_from t c) c + taken (eqb (get_or (set joins p (length parts)) p 0) (length parts)) (get_or (sums_from t (c + 1)) p 0) = change (length parts) in
      let x : taken (eqb (get_or joins p 0) (length parts)) (get_or (sums_from t c) p 0) ≡ 0 = ap (taken (eqb (get_or joins p 0) (length parts))) case'.after_is ∙ nothing (eqb (get_or joins p 0) (length parts)) in
      let y : taken (eqb (get_or (set joins p (length parts)) p 0) (length parts)) (get_or (sums_from t (c + 1)) p 0) ≡ get_or (sums_from t (c + 1)) p 0 = ap (λ (b : Bool). taken b (get_or (sums_from t (c + 1)) p 0)) (ap (λ (l : ℕ). eqb l (length parts)) at_p ∙ eq-eqb (length parts) (length parts) refl) in
      let none : part_sum (length parts) joins (sums_from t c) c ≡ 0 = part_sum_none (length parts) joins (sums_from t c) c unused in
      omega arith)
    where
      at_p : get_or (set joins p (length parts)) p 0 ≡ length parts
      at_p = let less = below in get_or-set_same joins p (length parts) 0 (omega (arith, far.joins_len))

      nothing : (b : Bool) → ◌≡◌ {A = ℕ} (taken b 0) 0
      nothing true = refl
      nothing false = refl

      change : (r : ℕ) → part_sum r (set joins p (length parts)) (sums_from t (c + 1)) c + taken (eqb (get_or joins p 0) r) (get_or (sums_from t c) p 0) ≡ part_sum r joins (sums_from t c) c + taken (eqb (get_or (set joins p (length parts)) p 0) r) (get_or (sums_from t (c + 1)) p 0)
      change r = part_sum_change r p joins (set joins p (length parts)) (sums_from t c) (sums_from t (c + 1)) c (λ v under apart. (get_or-set_other joins p v (length parts) 0 apart, sym (sums_off t c v lt (λ e. apart (e ∙ sym p_is))))) below

-- equal lists are as far
so_far_at : (t : Told) (c : ℕ) (labels joins labels' joins' : List ℕ) (parts parts' : List Part) → labels' ≡ labels → joins' ≡ joins → parts' ≡ parts → IsSoFar t c labels joins parts → IsSoFar t c labels' joins' parts'
so_far_at t c labels joins labels' joins' parts parts' a b d far =
    subst (λ (x : List Part). IsSoFar t c labels' joins' x) (sym d) (subst (λ (x : List ℕ). IsSoFar t c labels' x parts) (sym b) (subst (λ (x : List ℕ). IsSoFar t c x joins parts) (sym a) far))

pub joins_placed : (t : Told) → AreCounted t → (c p label : ℕ) (labels joins labels' joins' : List ℕ) (parts parts' : List Part) → 0 < c → c < length t.own → IsSoFar t c labels joins parts → p ≡ up t.parents c → Joins ≡ fate_of t c
    → label ≡ get_or joins p 0 → labels' ≡ set labels c label → joins' ≡ set joins c label → parts' ≡ parts → IsSoFar t (c + 1) labels' joins' parts'
joins_placed t lawful c p label labels joins labels' joins' parts parts' positive lt far p_is is label_is a b d =
    so_far_at t (c + 1) (set labels c (get_or joins p 0)) (set joins c (get_or joins p 0)) labels' joins' parts parts' (a ∙ ap (set labels c) label_is) (b ∙ ap (set joins c) label_is) d (placed_joins t lawful c p labels joins parts positive lt far p_is is)

pub alone_placed : (t : Told) → AreCounted t → (c p leads : ℕ) (part : Part) (labels joins labels' joins' : List ℕ) (parts parts' : List Part) → 0 < c → c < length t.own → IsSoFar t c labels joins parts → p ≡ up t.parents c → Alone leads ≡ fate_of t c
    → part ≡ part_below t p c leads → IsPlaced c (length parts) part labels joins parts labels' joins' parts' → IsSoFar t (c + 1) labels' joins' parts'
alone_placed t lawful c p leads part labels joins labels' joins' parts parts' positive lt far p_is is part_is placed =
    so_far_at t (c + 1) (set labels c (length parts)) (set joins c (length parts)) labels' joins' (parts ++ part_below t p c leads ∷ []) parts' placed.labels_are placed.joins_are (placed.parts_are ∙ ap (λ (x : Part). parts ++ x ∷ []) part_is) (placed_alone t lawful c p labels joins parts positive lt far p_is leads is)

pub closes_placed : (t : Told) → AreCounted t → (c p leads : ℕ) (part : Part) (labels joins labels' joins' : List ℕ) (parts parts' : List Part) → 0 < c → c < length t.own → IsSoFar t c labels joins parts → p ≡ up t.parents c → Closes leads ≡ fate_of t c
    → part ≡ part_below t p c leads → IsPlaced c (length parts) part labels (set joins p (length parts)) parts labels' joins' parts' → IsSoFar t (c + 1) labels' joins' parts'
closes_placed t lawful c p leads part labels joins labels' joins' parts parts' positive lt far p_is is part_is placed =
    so_far_at t (c + 1) (set labels c (length parts)) (set (set joins p (length parts)) c (length parts)) labels' joins' (parts ++ part_below t p c leads ∷ []) parts' placed.labels_are placed.joins_are (placed.parts_are ∙ ap (λ (x : Part). parts ++ x ∷ []) part_is) (placed_closes t lawful c p labels joins parts positive lt far p_is leads is)

-- version 0
module _ (t : Told) (lawful : AreCounted t) (first : ℕ) (first_is : first ≡ leads_of_rest t 0) where
  first_le : first ≤ 3 * get_or t.live 0 0
  first_le =
      let low : get_or (sums_from t 1) 0 0 ≤ get_or t.live 0 0 - 1 = sums_low t (length t.own - 1) 0 in
      let held = lawful.held 0 lawful.some in
      omega arith

  pub first_none : (labels joins : List ℕ) (parts : List Part) → first ≤ 0 → labels ≡ replicate {A = ℕ} (length t.own) 4294967295 → joins ≡ replicate {A = ℕ} (length t.own) 4294967295 → parts ≡ [] → IsSoFar t 1 labels joins parts
  first_none labels joins parts none a b d = so_far_at t 1 (replicate {A = ℕ} (length t.own) 4294967295) (replicate {A = ℕ} (length t.own) 4294967295) labels joins [] parts a b d (record {
    labels_len = length-replicate {A = ℕ} (length t.own) 4294967295;
    joins_len = length-replicate {A = ℕ} (length t.own) 4294967295;
    few = omega arith;
    fit = λ q lt. absurd (omega arith);
    served = λ v lt. out v (omega arith);
    joins_served = λ v lt. out v (omega arith);
    root = λ lt. absurd (omega arith);
    hangs = λ v above under. absurd (omega arith);
    joins_hang = λ v under lt. absurd (omega arith);
    topmost = λ q lt. absurd (omega arith);
    met = λ q lt. absurd (omega arith);
    numbered = λ q r v less lt. absurd (omega arith);
    leads = λ q lt. absurd (omega arith);
  })
    where
      out : (v : ℕ) → v ≡ 0 → IsServed t [] v (get_or (replicate {A = ℕ} (length t.own) 4294967295) v 0)
      out v is = inr (get_or-replicate (length t.own) v 4294967295 0 (omega (arith, lawful.some)), ap (λ (w : ℕ). get_or t.live w 0) is ∙ (let le = lawful.first in omega arith))

  pub first_some : (labels joins : List ℕ) (parts : List Part) → 0 < first → labels ≡ set (replicate {A = ℕ} (length t.own) 4294967295) 0 0 → joins ≡ set (replicate {A = ℕ} (length t.own) 4294967295) 0 0 → parts ≡ top_part t first ∷ [] → IsSoFar t 1 labels joins parts
  first_some labels joins parts some a b d = so_far_at t 1 (set (replicate {A = ℕ} (length t.own) 4294967295) 0 0) (set (replicate {A = ℕ} (length t.own) 4294967295) 0 0) labels joins (top_part t first ∷ []) parts a b d (record {
    labels_len = length-set (replicate {A = ℕ} (length t.own) 4294967295) 0 0 ∙ length-replicate {A = ℕ} (length t.own) 4294967295;
    joins_len = length-set (replicate {A = ℕ} (length t.own) 4294967295) 0 0 ∙ length-replicate {A = ℕ} (length t.own) 4294967295;
    few = omega arith;
    fit = λ q lt. subst (λ (r : ℕ). IsFit t (nth_part (top_part t first ∷ []) r)) (sym (only q lt)) (record { entries = omega arith; some = omega arith; led = omega arith; placed = λ p is. absurd (cc) });
    served = λ v lt. inside v (omega arith);
    joins_served = λ v lt. inside v (omega arith);
    root = λ lt. subst (λ (l : ℕ). (nth_part (top_part t first ∷ []) l).above ≡ None) (sym at_zero) refl;
    hangs = λ v above under. absurd (omega arith);
    joins_hang = λ v under lt. inl refl;
    topmost = λ q lt none. at_zero ∙ sym (only q lt);
    met = λ q lt. (0, omega arith, at_zero ∙ sym (only q lt), subst (λ (r : ℕ). get_or t.live 0 0 ≡ (nth_part (top_part t first ∷ []) r).least) (sym (only q lt)) refl);
    numbered = λ q r v less lt. absurd (let r_is = only r lt in omega arith);
    leads = λ q lt. subst (λ (r : ℕ). part_sum r (set (replicate {A = ℕ} (length t.own) 4294967295) 0 0) t.own 1 + part_sum r (set (replicate {A = ℕ} (length t.own) 4294967295) 0 0) (sums_from t 1) 1 ≡ (nth_part (top_part t first ∷ []) r).leads) (sym (only q lt)) sum;
  })
    where
      only : (q : ℕ) → q < length (top_part t first ∷ []) → q ≡ 0
      only q lt = omega arith

      at_zero : get_or (set (replicate {A = ℕ} (length t.own) 4294967295) 0 0) 0 0 ≡ 0
      at_zero = get_or-set_same (replicate {A = ℕ} (length t.own) 4294967295) 0 0 0 (omega (arith, lawful.some, length-replicate {A = ℕ} (length t.own) 4294967295))

      inside : (v : ℕ) → v ≡ 0 → IsServed t (top_part t first ∷ []) v (get_or (set (replicate {A = ℕ} (length t.own) 4294967295) 0 0) v 0)
      inside v is = subst (λ (w : ℕ). IsServed t (top_part t first ∷ []) w (get_or (set (replicate {A = ℕ} (length t.own) 4294967295) 0 0) w 0)) (sym is)
          (subst (λ (l : ℕ). IsServed t (top_part t first ∷ []) 0 l) (sym at_zero) (inl (omega arith, first_le)))

      sum : part_sum 0 (set (replicate {A = ℕ} (length t.own) 4294967295) 0 0) t.own 1 + part_sum 0 (set (replicate {A = ℕ} (length t.own) 4294967295) 0 0) (sums_from t 1) 1 ≡ first
      sum =
          let own : taken (eqb (get_or (set (replicate {A = ℕ} (length t.own) 4294967295) 0 0) 0 0) 0) (get_or t.own 0 0) ≡ get_or t.own 0 0 = ap (λ (l : ℕ). taken (eqb l 0) (get_or t.own 0 0)) at_zero in
          let open' : taken (eqb (get_or (set (replicate {A = ℕ} (length t.own) 4294967295) 0 0) 0 0) 0) (get_or (sums_from t 1) 0 0) ≡ get_or (sums_from t 1) 0 0 = ap (λ (l : ℕ). taken (eqb l 0) (get_or (sums_from t 1) 0 0)) at_zero in
          omega arith
