-- The leads of a part, one after another along their chain.
use Rattle.std.proofs.Common.{◌≡◌, ◌<◌, ◌≤◌, ◌+◌, ◌-◌, ℕ, suc, Bool, true, cond, eqb, List, [], ◌∷◌, ◌++◌, length, filter, drop, get_or, Option, Some, None, sym, ap, ◌∙◌, arith, add-one, drop-cons, append_assoc}
use Rattle.std.specs.Option.{option_map_or}
use Rattle.std.proofs.lemmas.Bool.{eq-eqb}
use Rattle.std.proofs.lemmas.List.{get_or-map, length-map}
use Rattle.strat_arena.specs.declared.items.Item.{Item}
use Rattle.strat_split.specs.Chains.{first_labelled}
use Rattle.strat_split.specs.Dealing.{labels_of, item_leads}
use Rattle.strat_split.specs.declared.parts.Plan.{Plan}
use Rattle.strat_split.proofs.ChainLemmas.{labelled_found}
use Rattle.strat_split.proofs.LeadLemmas.{leads_from, rest_leads}

module _ (plan : Plan) (items : List Item) (q : ℕ) where
  many : length (labels_of plan items) ≡ length items
  many = length-map items (λ (item : Item). get_or plan.part_of item.version 0)

  -- a lead that a search from a place on finds
  pub lead_within : (o : Option ℕ) (k : ℕ) → o ≡ first_labelled (labels_of plan items) q k → (i : ℕ) → o ≡ Some i → (i < length items) × (get_or (labels_of plan items) i 0 ≡ q)
  lead_within o k is i some = let found = labelled_found (labels_of plan items) q k i (sym is ∙ some) in (omega (arith, found.1, many), found.2)

  -- what a search from the start finds is all
  pub leads_all : (head : Option ℕ) (taken : List Item) → head ≡ first_labelled (labels_of plan items) q 0 → taken ≡ [] → taken ++ rest_leads plan items q head ≡ item_leads plan items q
  leads_all head taken is none = (λ i. none i ++ rest_leads plan items q (is i)) ∙ sym (leads_from plan items q (length items) 0 (omega arith))

  module _ (i : ℕ) (lt : i < length items) (label : get_or (labels_of plan items) i 0 ≡ q) (next : Option ℕ) (is : next ≡ first_labelled (labels_of plan items) q (i + 1)) where
    pub leads_step : (d : Item) → rest_leads plan items q (Some i) ≡ get_or items i d ∷ rest_leads plan items q next
    leads_step d =
        let lead : Item → Bool = λ (item : Item). eqb (get_or plan.part_of item.version 0) q in
        let here : drop i items ≡ get_or items i d ∷ drop (suc i) items = drop-cons items i d lt in
        let at : get_or (labels_of plan items) i 0 ≡ get_or plan.part_of (get_or items i d).version 0 = get_or-map (λ (item : Item). get_or plan.part_of item.version 0) items i d 0 lt in
        let on : lead (get_or items i d) ≡ true = eq-eqb (get_or plan.part_of (get_or items i d).version 0) q (sym at ∙ label) in
        let more : filter lead (drop (i + 1) items) ≡ rest_leads plan items q (first_labelled (labels_of plan items) q (i + 1)) = leads_from plan items q (length items - (i + 1)) (i + 1) (omega arith) in
        ap (filter lead) here
        ∙ ap (λ (b : Bool). cond b (get_or items i d ∷ filter lead (drop (suc i) items)) (filter lead (drop (suc i) items))) on
        ∙ ap (λ (ys : List Item). get_or items i d ∷ ys) (ap (λ (j : ℕ). filter lead (drop j items)) (sym (add-one i)) ∙ more ∙ ap (rest_leads plan items q) (sym is))

    pub leads_on : (at : Option ℕ) (taken : List Item) (d : Item) → at ≡ Some i → taken ++ rest_leads plan items q at ≡ item_leads plan items q → (taken ++ get_or items i d ∷ []) ++ rest_leads plan items q next ≡ item_leads plan items q
    leads_on at taken d some so_far =
        append_assoc taken (get_or items i d ∷ []) (rest_leads plan items q next) ∙ ap (λ (ys : List Item). taken ++ ys) (sym (leads_step d)) ∙ ap (λ (o : Option ℕ). taken ++ rest_leads plan items q o) (sym some) ∙ so_far

    pub lead_nearer : option_map_or (λ j. length items - j) next 0 < length items - i
    lead_nearer = go next is
      where
        go : (o : Option ℕ) → o ≡ first_labelled (labels_of plan items) q (i + 1) → option_map_or (λ j. length items - j) o 0 < length items - i
        go None e = omega arith
        go (Some j) e = let found = labelled_found (labels_of plan items) q (i + 1) j (sym e) in omega (arith, found.0, found.1, many)

    pub lead_few : (n : ℕ) → n ≤ i → n + 1 ≤ option_map_or (λ j. j) next (length items)
    lead_few n few = go next is
      where
        go : (o : Option ℕ) → o ≡ first_labelled (labels_of plan items) q (i + 1) → n + 1 ≤ option_map_or (λ j. j) o (length items)
        go None e = omega arith
        go (Some j) e = let found = labelled_found (labels_of plan items) q (i + 1) j (sym e) in omega (arith, found.0)
