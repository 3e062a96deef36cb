-- Versions placed in parts from the least up: what one more version keeps.
use Rattle.std.proofs.Common.{◌≡◌, ◌<◌, ◌≤◌, ◌+◌, ◌-◌, ◌*◌, ℕ, Bool, true, false, eqb, ◌⊎◌, inl, inr, List, [], ◌∷◌, ◌++◌, length, get_or, set, Option, Some, None, refl, sym, ap, ◌∙◌, subst, arith}
use Rattle.std.specs.Option.{option_map_or}
use Rattle.std.proofs.lemmas.Bool.{eq-eqb, ne_eqb, cases_eq, cases_lt}
use Rattle.std.proofs.lemmas.List.{get_or-set_same, get_or-set_other, get_or_append_left, get_or_push, length_push, length-set}
use Rattle.strat_base.specs.Tree.{parent_of}
use Rattle.strat_tree.specs.Ancestor.{up}
use Rattle.def_split.specs.Plan.{in_no_part}
use Rattle.strat_split.specs.Survey.{Told, AreCounted}
use Rattle.strat_split.specs.Greedy.{sums_from, leads_of_rest, open_after}
use Rattle.strat_split.specs.Placing.{nth_part, part_sum, IsFit, IsServed, IsSoFar}
use Rattle.strat_split.specs.declared.parts.Part.{Part}
use Rattle.strat_split.proofs.SumLemmas.{taken, part_sum_more, part_sum_change, part_sum_same, part_sum_none}
use Rattle.strat_split.proofs.GreedyLemmas.{up_is, sums_next}

-- what holds of each number below c in a list, once place c is set
set_each : (P : ℕ → ℕ → Type 0) (xs : List ℕ) (c x : ℕ) → c < length xs → ((v : ℕ) → v < c → P v (get_or xs v 0)) → P c x → (v : ℕ) → v < c + 1 → P v (get_or (set xs c x) v 0)
set_each P xs c x lt old new v under = elim (cases_eq v c) [
  | inl here ↦ let Q : ℕ → Type 0 = P c in subst (λ (w : ℕ). P w (get_or (set xs c x) w 0)) (sym here) (subst Q (sym (get_or-set_same xs c x 0 lt)) new)
  | inr apart ↦ let Q : ℕ → Type 0 = P v in subst Q (sym (get_or-set_other xs c v x 0 apart)) (old v (omega (arith, apart)))
]

kept : (xs : List ℕ) (c x v : ℕ) → v < c → get_or (set xs c x) v 0 ≡ get_or xs v 0
kept xs c x v lt = get_or-set_other xs c v x 0 (λ e. omega (arith, e))

-- a sum with place c set
sum_set : (q : ℕ) (xs ns : List ℕ) (c x : ℕ) → c < length xs → part_sum q (set xs c x) ns (c + 1) ≡ part_sum q xs ns c + taken (eqb x q) (get_or ns c 0)
sum_set q xs ns c x lt =
    part_sum_more q (set xs c x) ns c ∙ (λ i. part_sum_same q xs (set xs c x) ns ns c (λ v under. (kept xs c x v under, refl)) i + taken (eqb (get_or-set_same xs c x 0 lt i) q) (get_or ns c 0))

-- a part that was there, after another is added
old_part : (parts : List Part) (part : Part) (q : ℕ) → q < length parts → nth_part (parts ++ part ∷ []) q ≡ nth_part parts q
old_part parts part q lt = get_or_append_left parts (part ∷ []) (record { above = None; leads = 0; entries = 0; least = 0 }) q lt

new_part : (parts : List Part) (part : Part) → nth_part (parts ++ part ∷ []) (length parts) ≡ part
new_part parts part = get_or_push parts part (record { above = None; leads = 0; entries = 0; least = 0 }) (length parts) refl

-- what holds of each part, after another is added
each_part : (P : ℕ → Part → Type 0) (parts : List Part) (part : Part) → ((q : ℕ) → q < length parts → P q (nth_part parts q)) → P (length parts) part → (q : ℕ) → q < length (parts ++ part ∷ []) → P q (nth_part (parts ++ part ∷ []) q)
each_part P parts part old new q lt =
    let len : length (parts ++ part ∷ []) ≡ length parts + 1 = length_push parts part in
    elim (cases_lt q (length parts)) [
      | inl under ↦ let Q : Part → Type 0 = P q in subst Q (sym (old_part parts part q under)) (old q under)
      | inr past ↦
          let here : q ≡ length parts = omega arith in
          let Q : Part → Type 0 = P (length parts) in
          subst (λ (r : ℕ). P r (nth_part (parts ++ part ∷ []) r)) (sym here) (subst Q (sym (new_part parts part)) new)
    ]

served_more : (t : Told) (parts : List Part) (part : Part) (v label : ℕ) → IsServed t parts v label → IsServed t (parts ++ part ∷ []) v label
served_more t parts part v label (inl there) =
    let len : length (parts ++ part ∷ []) ≡ length parts + 1 = length_push parts part in
    inl (omega (arith, there.0), subst (λ (p : Part). p.entries ≤ 3 * get_or t.live v 0) (sym (old_part parts part label there.0)) there.1)
served_more t parts part v label (inr none) = inr none

-- a label of a served version that is below the new number is one of an old part
old_label : (t : Told) (parts : List Part) (part : Part) (v label : ℕ) → length parts ≤ 16384 → IsServed t parts v label → label < length (parts ++ part ∷ []) → label < length parts
old_label t parts part v label few (inl there) lt = there.0
old_label t parts part v label few (inr none) lt =
    let len : length (parts ++ part ∷ []) ≡ length parts + 1 = length_push parts part in
    let is : label ≡ in_no_part = none.0 in
    absurd (omega arith)

-- what a version joins serves it too
served_below : (t : Told) (parts : List Part) (p v label : ℕ) → get_or t.live p 0 ≤ get_or t.live v 0 → (get_or t.live p 0 ≡ 0 → get_or t.live v 0 ≡ 0) → IsServed t parts p label → IsServed t parts v label
served_below t parts p v label le none (inl there) = let dense = there.1 in inl (there.0, omega arith)
served_below t parts p v label le none (inr out) = inr (out.0, none out.1)

-- the open sums before and after version c differ at its parent alone
pub sums_off : (t : Told) (c v : ℕ) → c < length t.own → (v ≡ up t.parents c → ⊥) → get_or (sums_from t c) v 0 ≡ get_or (sums_from t (c + 1)) v 0
sums_off t c v lt apart =
    ap (λ (xs : List ℕ). get_or xs v 0) (sums_next t c lt) ∙ get_or-set_other (sums_from t (c + 1)) (up t.parents c) v (open_after (leads_of_rest t c) (get_or (sums_from t (c + 1)) (up t.parents c) 0) (get_or t.live (up t.parents c) 0)) 0 apart

module _ (t : Told) (lawful : AreCounted t) (c p : ℕ) (labels joins : List ℕ) (parts : List Part) (positive : 0 < c) (lt : c < length t.own) (far : IsSoFar t c labels joins parts) (p_is : p ≡ up t.parents c) where
  parent_is : parent_of t.parents c ≡ Some p
  parent_is = (up_is t.parents lawful.tree c positive (omega (arith, lawful.fits))).0 ∙ ap (λ (v : ℕ). Some v) (sym p_is)

  parent_less : p < c
  parent_less = let less = (up_is t.parents lawful.tree c positive (omega (arith, lawful.fits))).1 in omega arith

  labels_lt : c < length labels
  labels_lt = let len = far.labels_len in omega arith

  live_le : get_or t.live p 0 ≤ get_or t.live c 0
  live_le = lawful.grows c p lt parent_is

  live_less : get_or t.live c 0 ≤ get_or t.live p 0 + get_or t.own c 0
  live_less = lawful.grows_by_own c p lt parent_is

  up_less : (v : ℕ) → 0 < v → v < c → up t.parents v < v
  up_less v above under = (up_is t.parents lawful.tree v above (omega (arith, lawful.fits))).1

  -- one more version joins what joins its parent
  module _ (q : ℕ) (q_is : q ≡ get_or joins p 0)
      (sum_is : get_or (sums_from t c) p 0 ≡ get_or (sums_from t (c + 1)) p 0 + leads_of_rest t c)
      (low : get_or (sums_from t (c + 1)) p 0 + leads_of_rest t c ≤ get_or t.live p 0 - 1) where
    served_here : IsServed t parts c q
    served_here = subst (IsServed t parts c) (sym q_is) (served_below t parts p c (get_or joins p 0) live_le (λ none. let le = live_less in omega arith) (far.joins_served p parent_less))

    joined : q < length parts → (get_or labels p 0 ≡ q) ⊎ ((nth_part parts q).above ≡ Some p)
    joined = subst (λ (l : ℕ). l < length parts → (get_or labels p 0 ≡ l) ⊎ ((nth_part parts l).above ≡ Some p)) (sym q_is) (far.joins_hang p parent_less)

    leads_join : (r : ℕ) → part_sum r labels t.own c + part_sum r joins (sums_from t c) c ≡ (nth_part parts r).leads
        → part_sum r (set labels c q) t.own (c + 1) + part_sum r (set joins c q) (sums_from t (c + 1)) (c + 1) ≡ (nth_part parts r).leads
    leads_join r old =
        let a : part_sum r (set labels c q) t.own (c + 1) ≡ part_sum r labels t.own c + taken (eqb q r) (get_or t.own c 0) = sum_set r labels t.own c q labels_lt in
        let b : part_sum r (set joins c q) (sums_from t (c + 1)) (c + 1) ≡ part_sum r joins (sums_from t (c + 1)) c + taken (eqb q r) (get_or (sums_from t (c + 1)) c 0) = sum_set r joins (sums_from t (c + 1)) c q (omega (arith, far.joins_len)) in
        let d : part_sum r joins (sums_from t c) c + taken (eqb (get_or joins p 0) r) (get_or (sums_from t (c + 1)) p 0) ≡ part_sum r joins (sums_from t (c + 1)) c + taken (eqb (get_or joins p 0) r) (get_or (sums_from t c) p 0) = part_sum_change r p joins joins (sums_from t (c + 1)) (sums_from t c) c (λ v under apart. (refl, sums_off t c v lt (λ e. apart (e ∙ sym p_is)))) parent_less in
        elim (cases_eq q r) [
          | inl here ↦
              let yes' : eqb q r ≡ true = eq-eqb q r here in
              let yes'' : eqb (get_or joins p 0) r ≡ true = ap (λ (l : ℕ). eqb l r) (sym q_is) ∙ yes' in
              let x : taken (eqb q r) (get_or t.own c 0) ≡ get_or t.own c 0 = ap (λ (e : Bool). taken e (get_or t.own c 0)) yes' in
              let y : taken (eqb q r) (get_or (sums_from t (c + 1)) c 0) ≡ get_or (sums_from t (c + 1)) c 0 = ap (λ (e : Bool). taken e (get_or (sums_from t (c + 1)) c 0)) yes' in
              let z : taken (eqb (get_or joins p 0) r) (get_or (sums_from t (c + 1)) p 0) ≡ get_or (sums_from t (c + 1)) p 0 = ap (λ (e : Bool). taken e (get_or (sums_from t (c + 1)) p 0)) yes'' in
              let w : taken (eqb (get_or joins p 0) r) (get_or (sums_from t c) p 0) ≡ get_or (sums_from t c) p 0 = ap (λ (e : Bool). taken e (get_or (sums_from t c) p 0)) yes'' in
              omega arith
          | inr apart ↦
              let no' : eqb q r ≡ false = ne_eqb q r apart in
              let no'' : eqb (get_or joins p 0) r ≡ false = ap (λ (l : ℕ). eqb l r) (sym q_is) ∙ no' in
              let x : taken (eqb q r) (get_or t.own c 0) ≡ 0 = ap (λ (e : Bool). taken e (get_or t.own c 0)) no' in
              let y : taken (eqb q r) (get_or (sums_from t (c + 1)) c 0) ≡ 0 = ap (λ (e : Bool). taken e (get_or (sums_from t (c + 1)) c 0)) no' in
              let z : taken (eqb (get_or joins p 0) r) (get_or (sums_from t (c + 1)) p 0) ≡ 0 = ap (λ (e : Bool). taken e (get_or (sums_from t (c + 1)) p 0)) no'' in
              let w : taken (eqb (get_or joins p 0) r) (get_or (sums_from t c) p 0) ≡ 0 = ap (λ (e : Bool). taken e (get_or (sums_from t c) p 0)) no'' in
              omega arith
        ]

    pub join_step : IsSoFar t (c + 1) (set labels c q) (set joins c q) parts
    join_step =
        record {
          labels_len = length-set labels c q ∙ far.labels_len;
          joins_len = length-set joins c q ∙ far.joins_len;
          few = let few' = far.few in omega arith;
          fit = far.fit;
          served = set_each (IsServed t parts) labels c q labels_lt far.served served_here;
          joins_served = set_each (IsServed t parts) joins c q (omega (arith, far.joins_len)) far.joins_served served_here;
          root = subst (λ (l : ℕ). l < length parts → (nth_part parts l).above ≡ None) (sym (kept labels c q 0 positive)) far.root;
          hangs = λ v above under. set_each (λ v l. 0 < v → l < length parts → (get_or (set labels c q) (up t.parents v) 0 ≡ l) ⊎ ((nth_part parts l).above ≡ Some (up t.parents v))) labels c q labels_lt
              (λ v under above is_part.
              let less : up t.parents v < v = up_less v above under in
              subst (λ (l : ℕ). (l ≡ get_or labels v 0) ⊎ ((nth_part parts (get_or labels v 0)).above ≡ Some (up t.parents v))) (sym (kept labels c q (up t.parents v) (omega arith))) (far.hangs v above under is_part))
              (λ above is_part. subst (λ (u : ℕ). (get_or (set labels c q) u 0 ≡ q) ⊎ ((nth_part parts q).above ≡ Some u)) p_is (subst (λ (l : ℕ). (l ≡ q) ⊎ ((nth_part parts q).above ≡ Some p)) (sym (kept labels c q p parent_less)) (joined is_part)))
              v under above;
          joins_hang = set_each (λ v l. l < length parts → (get_or (set labels c q) v 0 ≡ l) ⊎ ((nth_part parts l).above ≡ Some v)) joins c q (omega (arith, far.joins_len))
              (λ v under is_part. subst (λ (l : ℕ). (l ≡ get_or joins v 0) ⊎ ((nth_part parts (get_or joins v 0)).above ≡ Some v)) (sym (kept labels c q v under)) (far.joins_hang v under is_part))
              (λ is_part. inl (get_or-set_same labels c q 0 labels_lt));
          topmost = λ r is_part none. kept labels c q 0 positive ∙ far.topmost r is_part none;
          met = λ r is_part. let found = far.met r is_part in (found.0, omega (arith, found.1), kept labels c q found.0 found.1 ∙ found.2, found.3);
          numbered = λ r s v less is_part under. set_each (λ v l. l ≡ s → (u : ℕ) × (u < v) × (get_or (set labels c q) u 0 ≡ r)) labels c q labels_lt
              (λ v under is. let found = far.numbered r s v less is_part under is in (found.0, found.1, kept labels c q found.0 (omega (arith, found.1)) ∙ found.2))
              (λ is. let found = far.met r (omega arith) in (found.0, found.1, kept labels c q found.0 found.1 ∙ found.2))
              v under;
          leads = λ r is_part. leads_join r (far.leads r is_part);
        }

  -- one more version begins a part
  module _ (part : Part) (joins1 : List ℕ)
      (above_is : part.above ≡ Some p) (entries_is : part.entries ≡ part.leads + get_or t.live p 0) (least_is : get_or t.live c 0 ≡ part.least)
      (some : 1 ≤ part.entries) (led : part.entries ≤ 2 * part.leads) (dense : part.entries ≤ 3 * get_or t.live c 0)
      (joins1_len : length joins1 ≡ length t.own)
      (each : (v : ℕ) → v < c → (get_or joins1 v 0 ≡ get_or joins v 0) ⊎ ((v ≡ p) × (get_or joins1 v 0 ≡ length parts) × (part.entries ≤ 3 * get_or t.live p 0)))
      (old_sums : (r : ℕ) → r < length parts → part_sum r joins1 (sums_from t (c + 1)) c ≡ part_sum r joins (sums_from t c) c)
      (new_sum : part_sum (length parts) joins1 (sums_from t (c + 1)) c + leads_of_rest t c ≡ part.leads) where
    few_parts : length parts ≤ 16384
    few_parts = let a = far.few in let b = lawful.few in omega arith

    joins_lt : c < length joins1
    joins_lt = omega arith

    new_lt : length parts < length (parts ++ part ∷ [])
    new_lt = let len : length (parts ++ part ∷ []) ≡ length parts + 1 = length_push parts part in omega arith

    new_served : (v : ℕ) → part.entries ≤ 3 * get_or t.live v 0 → IsServed t (parts ++ part ∷ []) v (length parts)
    new_served v le = inl (new_lt, subst (λ (x : Part). x.entries ≤ 3 * get_or t.live v 0) (sym (new_part parts part)) le)

    new_above : (u : ℕ) → p ≡ u → (nth_part (parts ++ part ∷ []) (length parts)).above ≡ Some u
    new_above u e = ap (λ (x : Part). x.above) (new_part parts part) ∙ above_is ∙ ap (λ (w : ℕ). Some w) e

    -- a label that is not the new part's
    not_new : (v : ℕ) → v < c → get_or labels v 0 ≡ length parts → ⊥
    not_new v under is = let lt' : get_or labels v 0 < length parts = old_label t parts part v (get_or labels v 0) few_parts (far.served v under) (subst (λ (l : ℕ). l < length (parts ++ part ∷ [])) (sym is) new_lt) in omega arith

    leads_begin : (r : ℕ) → r < length (parts ++ part ∷ []) → part_sum r (set labels c (length parts)) t.own (c + 1) + part_sum r (set joins1 c (length parts)) (sums_from t (c + 1)) (c + 1) ≡ (nth_part (parts ++ part ∷ []) r).leads
    leads_begin = each_part (λ r x. part_sum r (set labels c (length parts)) t.own (c + 1) + part_sum r (set joins1 c (length parts)) (sums_from t (c + 1)) (c + 1) ≡ x.leads) parts part
        (λ r is_part.
        let a : part_sum r (set labels c (length parts)) t.own (c + 1) ≡ part_sum r labels t.own c + taken (eqb (length parts) r) (get_or t.own c 0) = sum_set r labels t.own c (length parts) labels_lt in
        let b : part_sum r (set joins1 c (length parts)) (sums_from t (c + 1)) (c + 1) ≡ part_sum r joins1 (sums_from t (c + 1)) c + taken (eqb (length parts) r) (get_or (sums_from t (c + 1)) c 0) = sum_set r joins1 (sums_from t (c + 1)) c (length parts) joins_lt in
        let no' : eqb (length parts) r ≡ false = ne_eqb (length parts) r (λ e. omega (arith, e)) in
        let x : taken (eqb (length parts) r) (get_or t.own c 0) ≡ 0 = ap (λ (e : Bool). taken e (get_or t.own c 0)) no' in
        let y : taken (eqb (length parts) r) (get_or (sums_from t (c + 1)) c 0) ≡ 0 = ap (λ (e : Bool). taken e (get_or (sums_from t (c + 1)) c 0)) no' in
        let same : part_sum r joins1 (sums_from t (c + 1)) c ≡ part_sum r joins (sums_from t c) c = old_sums r is_part in
        let old : part_sum r labels t.own c + part_sum r joins (sums_from t c) c ≡ (nth_part parts r).leads = far.leads r is_part in
        omega arith)
        (let a : part_sum (length parts) (set labels c (length parts)) t.own (c + 1) ≡ part_sum (length parts) labels t.own c + taken (eqb (length parts) (length parts)) (get_or t.own c 0) = sum_set (length parts) labels t.own c (length parts) labels_lt in
        let b : part_sum (length parts) (set joins1 c (length parts)) (sums_from t (c + 1)) (c + 1) ≡ part_sum (length parts) joins1 (sums_from t (c + 1)) c + taken (eqb (length parts) (length parts)) (get_or (sums_from t (c + 1)) c 0) = sum_set (length parts) joins1 (sums_from t (c + 1)) c (length parts) joins_lt in
        let yes' : eqb (length parts) (length parts) ≡ true = eq-eqb (length parts) (length parts) refl in
        let x : taken (eqb (length parts) (length parts)) (get_or t.own c 0) ≡ get_or t.own c 0 = ap (λ (e : Bool). taken e (get_or t.own c 0)) yes' in
        let y : taken (eqb (length parts) (length parts)) (get_or (sums_from t (c + 1)) c 0) ≡ get_or (sums_from t (c + 1)) c 0 = ap (λ (e : Bool). taken e (get_or (sums_from t (c + 1)) c 0)) yes' in
        let none : part_sum (length parts) labels t.own c ≡ 0 = part_sum_none (length parts) labels t.own c not_new in
        omega arith)

    pub begin_step : IsSoFar t (c + 1) (set labels c (length parts)) (set joins1 c (length parts)) (parts ++ part ∷ [])
    begin_step =
        record {
          labels_len = length-set labels c (length parts) ∙ far.labels_len;
          joins_len = length-set joins1 c (length parts) ∙ joins1_len;
          few = let few' = far.few in let len : length (parts ++ part ∷ []) ≡ length parts + 1 = length_push parts part in omega arith;
          fit = each_part (λ r x. IsFit t x) parts part far.fit (record {
            entries = entries_is ∙ ap (λ (o : Option ℕ). part.leads + option_map_or (λ v. get_or t.live v 0) o 0) (sym above_is);
            some = some;
            led = led;
            placed = λ v is. let same : p ≡ v = cc in let less = parent_less in omega arith;
          });
          served = set_each (IsServed t (parts ++ part ∷ [])) labels c (length parts) labels_lt (λ v under. served_more t parts part v (get_or labels v 0) (far.served v under)) (new_served c dense);
          joins_served = set_each (IsServed t (parts ++ part ∷ [])) joins1 c (length parts) joins_lt
              (λ v under. elim (each v under) [
                | inl same ↦ subst (IsServed t (parts ++ part ∷ []) v) (sym same) (served_more t parts part v (get_or joins v 0) (far.joins_served v under))
                | inr here ↦ subst (IsServed t (parts ++ part ∷ []) v) (sym here.1) (new_served v (subst (λ (w : ℕ). part.entries ≤ 3 * get_or t.live w 0) (sym here.0) here.2))
              ])
              (new_served c dense);
          root = subst (λ (l : ℕ). l < length (parts ++ part ∷ []) → (nth_part (parts ++ part ∷ []) l).above ≡ None) (sym (kept labels c (length parts) 0 positive))
              (λ is_part. let old = old_label t parts part 0 (get_or labels 0 0) few_parts (far.served 0 positive) is_part in ap (λ (x : Part). x.above) (old_part parts part (get_or labels 0 0) old) ∙ far.root old);
          hangs = λ v above under. set_each (λ v l. 0 < v → l < length (parts ++ part ∷ []) → (get_or (set labels c (length parts)) (up t.parents v) 0 ≡ l) ⊎ ((nth_part (parts ++ part ∷ []) l).above ≡ Some (up t.parents v))) labels c (length parts) labels_lt
              (λ v under above is_part.
              let less : up t.parents v < v = up_less v above under in
              let old : get_or labels v 0 < length parts = old_label t parts part v (get_or labels v 0) few_parts (far.served v under) is_part in
              subst (λ (x : Part). (get_or (set labels c (length parts)) (up t.parents v) 0 ≡ get_or labels v 0) ⊎ (x.above ≡ Some (up t.parents v))) (sym (old_part parts part (get_or labels v 0) old))
              (subst (λ (l : ℕ). (l ≡ get_or labels v 0) ⊎ ((nth_part parts (get_or labels v 0)).above ≡ Some (up t.parents v))) (sym (kept labels c (length parts) (up t.parents v) (omega arith))) (far.hangs v above under old)))
              (λ above is_part. inr (new_above (up t.parents c) p_is))
              v under above;
          joins_hang = set_each (λ v l. l < length (parts ++ part ∷ []) → (get_or (set labels c (length parts)) v 0 ≡ l) ⊎ ((nth_part (parts ++ part ∷ []) l).above ≡ Some v)) joins1 c (length parts) joins_lt
              (λ v under. elim (each v under) [
                | inl same ↦
                    subst (λ (l : ℕ). l < length (parts ++ part ∷ []) → (get_or (set labels c (length parts)) v 0 ≡ l) ⊎ ((nth_part (parts ++ part ∷ []) l).above ≡ Some v)) (sym same) (λ is_part.
                    let old : get_or joins v 0 < length parts = old_label t parts part v (get_or joins v 0) few_parts (far.joins_served v under) is_part in
                    subst (λ (x : Part). (get_or (set labels c (length parts)) v 0 ≡ get_or joins v 0) ⊎ (x.above ≡ Some v)) (sym (old_part parts part (get_or joins v 0) old))
                    (subst (λ (l : ℕ). (l ≡ get_or joins v 0) ⊎ ((nth_part parts (get_or joins v 0)).above ≡ Some v)) (sym (kept labels c (length parts) v under)) (far.joins_hang v under old)))
                | inr here ↦
                    subst (λ (l : ℕ). l < length (parts ++ part ∷ []) → (get_or (set labels c (length parts)) v 0 ≡ l) ⊎ ((nth_part (parts ++ part ∷ []) l).above ≡ Some v)) (sym here.1) (λ is_part. inr (new_above v (sym here.0)))
              ])
              (λ is_part. inl (get_or-set_same labels c (length parts) 0 labels_lt));
          topmost = each_part (λ r x. x.above ≡ None → get_or (set labels c (length parts)) 0 0 ≡ r) parts part (λ r is_part none. kept labels c (length parts) 0 positive ∙ far.topmost r is_part none) (λ none. absurd (cc));
          met = each_part (λ r x. (v : ℕ) × (v < c + 1) × (get_or (set labels c (length parts)) v 0 ≡ r) × (get_or t.live v 0 ≡ x.least)) parts part
              (λ r is_part. let found = far.met r is_part in (found.0, omega (arith, found.1), kept labels c (length parts) found.0 found.1 ∙ found.2, found.3))
              (c, omega arith, get_or-set_same labels c (length parts) 0 labels_lt, least_is);
          numbered = λ r s v less is_part under. set_each (λ v l. l ≡ s → (u : ℕ) × (u < v) × (get_or (set labels c (length parts)) u 0 ≡ r)) labels c (length parts) labels_lt
              (λ v under is.
              let old : get_or labels v 0 < length parts = old_label t parts part v (get_or labels v 0) few_parts (far.served v under) (subst (λ (l : ℕ). l < length (parts ++ part ∷ [])) (sym is) is_part) in
              let found = far.numbered r s v less (omega arith) under is in
              (found.0, found.1, kept labels c (length parts) found.0 (omega (arith, found.1)) ∙ found.2))
              (λ is. let found = far.met r (omega arith) in (found.0, found.1, kept labels c (length parts) found.0 found.1 ∙ found.2))
              v under;
          leads = leads_begin;
        }
