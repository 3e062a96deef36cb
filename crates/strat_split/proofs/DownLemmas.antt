-- What a part took is passed on along the chain of the parts that hang from it.
use Rattle.std.proofs.Common.{◌≡◌, ◌<◌, ◌≤◌, ◌+◌, ◌-◌, ℕ, zero, suc, Bool, true, false, cond, eqb, ltb, ◌&&◌, inl, inr, List, length, get_or, Option, Some, None, refl, sym, ap, ◌∙◌, arith}
use Rattle.std.specs.Option.{option_map_or, option_or}
use Rattle.std.proofs.lemmas.Bool.{lt-ltb, le-ltb, eq-eqb, ne_eqb, and_left, and_right, cases_eq, cases_order}
use Rattle.std.proofs.lemmas.List.{length-map}
use Rattle.strat_base.specs.Tree.{Parents}
use Rattle.strat_arena.specs.declared.items.Item.{Item}
use Rattle.strat_split.specs.Chains.{first_labelled}
use Rattle.strat_split.specs.Dealing.{above_of, taken_over, passed_on}
use Rattle.strat_split.specs.Hanging.{carrier_of, carriers_of}
use Rattle.strat_split.specs.declared.parts.Part.{Part}
use Rattle.strat_split.specs.declared.parts.Plan.{Plan}
use Rattle.strat_split.proofs.ChainLemmas.{labelled_step, labelled_found}

-- a search from a place on finds a label at the first place that has it
labelled_soon : (labels : List ℕ) (label n i j : ℕ) → i + n ≡ length labels → i ≤ j → j < length labels → get_or labels j 0 ≡ label → (k : ℕ) × (first_labelled labels label i ≡ Some k) × (k ≤ j)
labelled_soon labels label zero i j end le lt is = absurd (omega arith)
labelled_soon labels label (suc n) i j end le lt is =
    let step = labelled_step labels label i (omega arith) in
    elim (cases_eq (get_or labels i 0) label) [
      | inl here ↦ (i, step ∙ ap (λ (b : Bool). cond b (Some i) (first_labelled labels label (i + 1))) (eq-eqb (get_or labels i 0) label here), le)
      | inr apart ↦
          let other : i ≡ j → ⊥ = λ e. apart (ap (λ (k : ℕ). get_or labels k 0) e ∙ is) in
          let later = labelled_soon labels label n (i + 1) j (omega arith) (omega (arith, other)) lt is in
          (later.0, step ∙ ap (λ (b : Bool). cond b (Some i) (first_labelled labels label (i + 1))) (ne_eqb (get_or labels i 0) label apart) ∙ later.1, later.2)
    ]

module _ (labels : List ℕ) (from : ℕ) where
  abbrev is_passed : Option ℕ → ℕ → Bool
  is_passed at q = eqb (get_or labels q 0) from && option_map_or (λ r. ltb q r) at true

  -- none is passed at the start
  none_passed : (at : Option ℕ) → at ≡ first_labelled labels from 0 → (q : ℕ) → q < length labels → is_passed at q ≡ false
  none_passed at is q lt = elim (cases_eq (get_or labels q 0) from) [
    | inl same ↦
        let first = labelled_soon labels from (length labels) 0 q (omega arith) (omega arith) lt same in
        and_right (eqb (get_or labels q 0) from) (option_map_or (λ r. ltb q r) at true) (ap (λ (o : Option ℕ). option_map_or (λ r. ltb q r) o true) (is ∙ first.1) ∙ le-ltb q first.0 first.2)
    | inr apart ↦ and_left (eqb (get_or labels q 0) from) (option_map_or (λ r. ltb q r) at true) (ne_eqb (get_or labels q 0) from apart)
  ]

  -- behind a part the next is passed over once it is come to
  module _ (r : ℕ) (lt : r < length labels) (at next : Option ℕ) (here : at ≡ Some r) (is : next ≡ first_labelled labels from (r + 1)) where
    now_passed : get_or labels r 0 ≡ from → is_passed next r ≡ true
    now_passed same = ap (λ (b : Bool). b && option_map_or (λ s. ltb r s) next true) (eq-eqb (get_or labels r 0) from same) ∙ go next is
      where
        go : (o : Option ℕ) → o ≡ first_labelled labels from (r + 1) → option_map_or (λ s. ltb r s) o true ≡ true
        go None e = refl
        go (Some s) e = let found = labelled_found labels from (r + 1) s (sym e) in lt-ltb r s (omega (arith, found.0))

    not_yet : is_passed at r ≡ false
    not_yet = and_right (eqb (get_or labels r 0) from) (option_map_or (λ s. ltb r s) at true) (ap (λ (o : Option ℕ). option_map_or (λ s. ltb r s) o true) here ∙ le-ltb r r (omega arith))

    as_before : (q : ℕ) → q < length labels → (q ≡ r → ⊥) → is_passed at q ≡ is_passed next q
    as_before q lt_q apart = elim (cases_eq (get_or labels q 0) from) [
      | inl same ↦ ap (λ (b : Bool). eqb (get_or labels q 0) from && b) (ap (λ (o : Option ℕ). option_map_or (λ s. ltb q s) o true) here ∙ elim (cases_order q r) [
        | inl equal ↦ absurd (apart equal)
        | inr (inl less) ↦ lt-ltb q r less ∙ sym (go next is less)
        | inr (inr more) ↦
            let first = labelled_soon labels from (length labels - (r + 1)) (r + 1) q (omega arith) (omega arith) lt_q same in
            le-ltb q r (omega arith) ∙ sym (ap (λ (o : Option ℕ). option_map_or (λ s. ltb q s) o true) (is ∙ first.1) ∙ le-ltb q first.0 first.2)
      ])
      | inr other ↦ and_left (eqb (get_or labels q 0) from) (option_map_or (λ s. ltb q s) at true) (ne_eqb (get_or labels q 0) from other) ∙ sym (and_left (eqb (get_or labels q 0) from) (option_map_or (λ s. ltb q s) next true) (ne_eqb (get_or labels q 0) from other))
    ]
      where
        go : (o : Option ℕ) → o ≡ first_labelled labels from (r + 1) → q < r → option_map_or (λ s. ltb q s) o true ≡ true
        go None e less = refl
        go (Some s) e less = let found = labelled_found labels from (r + 1) s (sym e) in lt-ltb q s (omega (arith, found.0))

  module _ (tree : Parents) (plan : Plan) (taken : List Item) (initial : List (Option Item)) where
    pub down_begun : (at : Option ℕ) → at ≡ first_labelled labels from 0 → (q : ℕ) → q < length labels → get_or initial q None ≡ cond (eqb (get_or labels q 0) from && option_map_or (λ r. ltb q r) at true) (passed_on tree plan taken from initial q) (get_or initial q None)
    down_begun at is q lt = sym (ap (λ (b : Bool). cond b (passed_on tree plan taken from initial q) (get_or initial q None)) (none_passed at is q lt))

    pub down_on : (r : ℕ) → r < length labels → get_or labels r 0 ≡ from → (at next : Option ℕ) → at ≡ Some r → next ≡ first_labelled labels from (r + 1) → (gifts after : List (Option Item))
        → ((q : ℕ) → q < length labels → get_or gifts q None ≡ cond (eqb (get_or labels q 0) from && option_map_or (λ s. ltb q s) at true) (passed_on tree plan taken from initial q) (get_or initial q None))
        → ((q : ℕ) → get_or after q None ≡ cond (eqb q r) (passed_on tree plan taken from gifts q) (get_or gifts q None))
        → (q : ℕ) → q < length labels → get_or after q None ≡ cond (eqb (get_or labels q 0) from && option_map_or (λ s. ltb q s) next true) (passed_on tree plan taken from initial q) (get_or initial q None)
    down_on r lt mine at next here is gifts after so_far now q lt_q = elim (cases_eq q r) [
      | inl same ↦
          let was : get_or gifts q None ≡ get_or initial q None = so_far q lt_q ∙ ap (λ (b : Bool). cond b (passed_on tree plan taken from initial q) (get_or initial q None)) (ap (is_passed at) same ∙ not_yet r lt at next here is) in
          now q
          ∙ ap (λ (b : Bool). cond b (passed_on tree plan taken from gifts q) (get_or gifts q None)) (eq-eqb q r same)
          ∙ ap (λ (o : Option Item). cond (ltb from q) (option_or (taken_over tree taken (above_of plan q)) o) o) was
          ∙ sym (ap (λ (b : Bool). cond b (passed_on tree plan taken from initial q) (get_or initial q None)) (ap (is_passed next) same ∙ now_passed r lt at next here is mine))
      | inr apart ↦
          now q
          ∙ ap (λ (b : Bool). cond b (passed_on tree plan taken from gifts q) (get_or gifts q None)) (ne_eqb q r apart)
          ∙ so_far q lt_q
          ∙ ap (λ (b : Bool). cond b (passed_on tree plan taken from initial q) (get_or initial q None)) (as_before r lt at next here is q lt_q apart)
    ]

-- the chain of the parts that hang from one, by the carriers that a plan gives
module _ (plan : Plan) (from : ℕ) (hanging : List ℕ) (same : hanging ≡ carriers_of plan.part_of plan.parts) where
  pub chain_begun : (at : Option ℕ) → at ≡ first_labelled hanging from 0 → at ≡ first_labelled (carriers_of plan.part_of plan.parts) from 0
  chain_begun at is = is ∙ ap (λ (labels : List ℕ). first_labelled labels from 0) same

  pub chain_on : (r : ℕ) (next : Option ℕ) → get_or (carriers_of plan.part_of plan.parts) r 0 ≡ from → next ≡ first_labelled hanging (get_or hanging r 0) (r + 1) → next ≡ first_labelled (carriers_of plan.part_of plan.parts) from (r + 1)
  chain_on r next mine is = is ∙ (λ i. first_labelled (same i) ((ap (λ (labels : List ℕ). get_or labels r 0) same ∙ mine) i) (r + 1))

  pub chain_within : (o : Option ℕ) (k : ℕ) → o ≡ first_labelled (carriers_of plan.part_of plan.parts) from k → (r : ℕ) → o ≡ Some r → (r < length plan.parts) × (get_or (carriers_of plan.part_of plan.parts) r 0 ≡ from)
  chain_within o k is r some =
      let found = labelled_found (carriers_of plan.part_of plan.parts) from k r (sym is ∙ some) in
      let many : length (carriers_of plan.part_of plan.parts) ≡ length plan.parts = length-map plan.parts (λ (part : Part). carrier_of plan.part_of part.above) in
      (omega (arith, found.1), found.2)

  pub chain_known : (r : ℕ) → r < length plan.parts → get_or (carriers_of plan.part_of plan.parts) r 0 ≡ from → from < length plan.parts → (r < length hanging) × (get_or hanging r 0 < length hanging)
  chain_known r lt mine inside =
      let many : length (carriers_of plan.part_of plan.parts) ≡ length plan.parts = length-map plan.parts (λ (part : Part). carrier_of plan.part_of part.above) in
      let as_many : length hanging ≡ length (carriers_of plan.part_of plan.parts) = ap (λ (labels : List ℕ). length labels) same in
      let here : get_or hanging r 0 ≡ from = ap (λ (labels : List ℕ). get_or labels r 0) same ∙ mine in
      (omega arith, omega arith)

  pub parts_told : (q : ℕ) → q < length plan.parts → q < length (carriers_of plan.part_of plan.parts)
  parts_told q lt = omega (arith, length-map plan.parts (λ (part : Part). carrier_of plan.part_of part.above))

  pub parts_back : (q : ℕ) → q < length (carriers_of plan.part_of plan.parts) → q < length plan.parts
  parts_back q lt = omega (arith, length-map plan.parts (λ (part : Part). carrier_of plan.part_of part.above))
