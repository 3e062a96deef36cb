-- One part after another is dealt what it takes.
use Rattle.std.proofs.Common.{◌≡◌, ◌<◌, ◌≤◌, ◌+◌, ℕ, zero, suc, Bool, true, false, cond, eqb, ltb, ◌||◌, inl, inr, List, [], length, get_or, set, Option, Some, None, refl, sym, ap, ◌∙◌, arith, true≢false}
use Rattle.std.specs.Option.{option_or, is_some}
use Rattle.std.proofs.lemmas.Bool.{lt-ltb, le-ltb, eq-eqb, ne_eqb, cases_eq, cases_lt}
use Rattle.std.proofs.lemmas.List.{get_or-set_other, length-map}
use Rattle.strat_base.specs.Tree.{Parents}
use Rattle.strat_base.proofs.ResultFacts.{option_cases}
use Rattle.strat_arena.specs.declared.items.Item.{Item}
use Rattle.def_split.specs.Plan.{part_of}
use Rattle.strat_split.specs.Chains.{first_labelled}
use Rattle.strat_split.specs.Dealing.{Deal, labels_of, above_of, items_taken, item_leads, taken_over, with_gift, passed_on, IsSplitFor, IsDealing, IsNextPart, TakeNothing}
use Rattle.strat_split.specs.Hanging.{carrier_of, carriers_of}
use Rattle.strat_split.specs.PlanSeen.{part_seen, plan_seen}
use Rattle.strat_split.specs.Waiting.{has_work}
use Rattle.strat_split.specs.declared.parts.Plan.{Plan}
use Rattle.strat_split.proofs.LeadLemmas.{leads_from, rest_leads}
use Rattle.strat_split.proofs.PassedLemmas.{carrier_at, carrier_some, takes_share, carrier_less, over_none, over_carried}

-- a part without work has neither a lead nor a gift
pub work_none : (a : Option ℕ) (b : Option Item) → (is_some a || is_some b) ≡ false → (a ≡ None) × (b ≡ None)
work_none None None e = (refl, refl)
work_none None (Some x) e = absurd (true≢false e)
work_none (Some i) b e = absurd (true≢false e)

cond_none : {X : Type 0} (b : Bool) (o : Option X) → o ≡ None → cond b o None ≡ None
cond_none true o e = e
cond_none false o e = refl

or_none : {X : Type 0} (o : Option X) → option_or o None ≡ o
or_none None = refl
or_none (Some x) = refl

-- without a first lead there is none
pub no_leads : (plan : Plan) (items : List Item) (q : ℕ) → first_labelled (labels_of plan items) q 0 ≡ None → item_leads plan items q ≡ []
no_leads plan items q none = leads_from plan items q (length items) 0 (omega arith) ∙ ap (rest_leads plan items q) none

module _ (tree parents : Parents) (plan : Plan) (items : List Item) (deal : Deal) (dealing : IsDealing tree plan items deal) (ready : IsSplitFor tree parents plan items) where
  over : ℕ → Option Item
  over q = taken_over parents items (above_of plan q)

  -- the carrier of a part as its gifts are told by it
  carrier_is : (q p : ℕ) → q < length plan.parts → above_of plan q ≡ Some p → get_or (carriers_of plan.part_of plan.parts) q 0 ≡ part_of (plan_seen plan) p
  carrier_is q p lt above =
      carrier_at plan q lt ∙ ap (carrier_of plan.part_of) above ∙ carrier_some plan.part_of p (ready.split.placed q p (omega (arith, length-map plan.parts part_seen)) above)

  -- a part whose carriers that are not dealt take nothing has what it takes over
  gift_is : (q : ℕ) → deal.from ≤ q → q < length plan.parts → ((r : ℕ) → deal.from ≤ r → r < q → items_taken parents plan items r ≡ []) → get_or deal.gifts q None ≡ taken_over parents items (above_of plan q)
  gift_is q late lt idle = elim (cases_lt (get_or (carriers_of plan.part_of plan.parts) q 0) deal.from) [
    | inl dealt ↦ dealing.given parents ready q late lt ∙ ap (λ (b : Bool). cond b (taken_over parents items (above_of plan q)) None) (lt-ltb (get_or (carriers_of plan.part_of plan.parts) q 0) deal.from dealt)
    | inr due ↦
        let none : taken_over parents items (above_of plan q) ≡ None = over_none tree parents plan items ready dealing.descending dealing.low q lt (λ p above inside.
        let is : get_or (carriers_of plan.part_of plan.parts) q 0 ≡ part_of (plan_seen plan) p = carrier_is q p lt above in
        let less : part_of (plan_seen plan) p < q = carrier_less tree parents plan items ready dealing.descending dealing.low q p lt above inside in
        idle (part_of (plan_seen plan) p) (omega arith) less) in
        dealing.given parents ready q late lt ∙ cond_none (ltb (get_or (carriers_of plan.part_of plan.parts) q 0) deal.from) (taken_over parents items (above_of plan q)) none ∙ sym none
  ]

  -- a part without work takes nothing
  idle_below : (n k : ℕ) → k ≤ length plan.parts → ((r : ℕ) → deal.from ≤ r → r < k → has_work deal.heads deal.gifts r ≡ false) → (r : ℕ) → r < n → deal.from ≤ r → r < k → items_taken parents plan items r ≡ []
  idle_below zero k within none r lt late below = absurd (omega arith)
  idle_below (suc n) k within none r lt late below =
      let nothing = work_none (get_or deal.heads r None) (get_or deal.gifts r None) (none r late below) in
      let leads : item_leads plan items r ≡ [] = no_leads plan items r (sym (dealing.due r late (omega arith)) ∙ nothing.0) in
      let gift : taken_over parents items (above_of plan r) ≡ None = sym (gift_is r late (omega arith) (λ s late_s less. idle_below n k within none s (omega arith) late_s (omega arith))) ∙ nothing.1 in
      takes_share tree parents plan items ready dealing.descending dealing.low r (omega arith) ∙ (λ i. with_gift (leads i) (gift i))

  pub idle : (k : ℕ) → k ≤ length plan.parts → ((r : ℕ) → deal.from ≤ r → r < k → has_work deal.heads deal.gifts r ≡ false) → (r : ℕ) → deal.from ≤ r → r < k → items_taken parents plan items r ≡ []
  idle k within none r late below = idle_below (r + 1) k within none r (omega arith) late below

  -- nothing waits
  pub take_nothing : ((r : ℕ) → has_work deal.heads deal.gifts r ≡ false) → TakeNothing parents plan items deal.from
  take_nothing none = λ q late lt. idle (length plan.parts) (omega arith) (λ r late_r below. none r) q late lt

  module _ (q : ℕ) (late : deal.from ≤ q) (lt : q < length plan.parts) (least : (r : ℕ) → r < q → has_work deal.heads deal.gifts r ≡ false) (taken : List Item) (is : taken ≡ with_gift (item_leads plan items q) (get_or deal.gifts q None)) where
    -- the least part with work is the next that takes something
    pub next_part : IsNextPart parents plan items deal.from q taken
    next_part = record {
      none = λ r late_r below. idle q (omega arith) (λ s late_s below_s. least s below_s) r late_r below;
      all = is ∙ ap (with_gift (item_leads plan items q)) (gift_is q late lt (λ r late_r below. idle q (omega arith) (λ s late_s below_s. least s below_s) r late_r below)) ∙ sym (takes_share tree parents plan items ready dealing.descending dealing.low q lt);
    }

    -- what is live where a part hangs is found among what its carrier took
    passed_over : (r : ℕ) → r < length plan.parts → get_or (carriers_of plan.part_of plan.parts) r 0 ≡ q → taken_over tree taken (above_of plan r) ≡ taken_over parents items (above_of plan r)
    passed_over r lt_r same = elim (option_cases (above_of plan r)) [
      | inl none ↦ ap (taken_over tree taken) none ∙ sym (ap (taken_over parents items) none)
      | inr some ↦
          let is_part : part_of (plan_seen plan) some.0 ≡ q = sym (carrier_is r some.0 lt_r some.1) ∙ same in
          ap (λ (ys : List Item). taken_over tree ys (above_of plan r)) (next_part.all ∙ ap (items_taken parents plan items) (sym is_part))
          ∙ over_carried tree parents plan items ready dealing.descending dealing.low r some.0 lt_r some.1 (omega arith)
    ]

    -- a part that hangs from one without work takes nothing over
    nothing_over : (r : ℕ) → r < length plan.parts → deal.from ≤ get_or (carriers_of plan.part_of plan.parts) r 0 → get_or (carriers_of plan.part_of plan.parts) r 0 < q → taken_over parents items (above_of plan r) ≡ None
    nothing_over r lt_r due before = over_none tree parents plan items ready dealing.descending dealing.low r lt_r (λ p above inside.
        let carrier : get_or (carriers_of plan.part_of plan.parts) r 0 ≡ part_of (plan_seen plan) p = carrier_is r p lt_r above in
        next_part.none (part_of (plan_seen plan) p) (omega arith) (omega arith))

    -- what it took is passed on
    pub given_next : (gifts : List (Option Item)) → ((r : ℕ) → r < length plan.parts → get_or gifts r None ≡ cond (eqb (get_or (carriers_of plan.part_of plan.parts) r 0) q) (passed_on tree plan taken q (set deal.gifts q None) r) (get_or (set deal.gifts q None) r None))
        → (r : ℕ) → q + 1 ≤ r → r < length plan.parts → get_or gifts r None ≡ cond (ltb (get_or (carriers_of plan.part_of plan.parts) r 0) (q + 1)) (taken_over parents items (above_of plan r)) None
    given_next gifts passed r late_r lt_r =
        let kept : get_or (set deal.gifts q None) r None ≡ get_or deal.gifts r None = get_or-set_other deal.gifts q r None None (λ e. omega arith) in
        let was : get_or deal.gifts r None ≡ cond (ltb (get_or (carriers_of plan.part_of plan.parts) r 0) deal.from) (taken_over parents items (above_of plan r)) None = dealing.given parents ready r (omega arith) lt_r in
        elim (cases_eq (get_or (carriers_of plan.part_of plan.parts) r 0) q) [
          | inl same ↦
              let empty : get_or (set deal.gifts q None) r None ≡ None = kept ∙ was ∙ ap (λ (b : Bool). cond b (taken_over parents items (above_of plan r)) None) (le-ltb (get_or (carriers_of plan.part_of plan.parts) r 0) deal.from (omega arith)) in
              passed r lt_r
              ∙ ap (λ (b : Bool). cond b (passed_on tree plan taken q (set deal.gifts q None) r) (get_or (set deal.gifts q None) r None)) (eq-eqb (get_or (carriers_of plan.part_of plan.parts) r 0) q same)
              ∙ ap (λ (b : Bool). cond b (option_or (taken_over tree taken (above_of plan r)) (get_or (set deal.gifts q None) r None)) (get_or (set deal.gifts q None) r None)) (lt-ltb q r (omega arith))
              ∙ ap (option_or (taken_over tree taken (above_of plan r))) empty
              ∙ or_none (taken_over tree taken (above_of plan r))
              ∙ passed_over r lt_r same
              ∙ sym (ap (λ (b : Bool). cond b (taken_over parents items (above_of plan r)) None) (lt-ltb (get_or (carriers_of plan.part_of plan.parts) r 0) (q + 1) (omega arith)))
          | inr apart ↦
              passed r lt_r
              ∙ ap (λ (b : Bool). cond b (passed_on tree plan taken q (set deal.gifts q None) r) (get_or (set deal.gifts q None) r None)) (ne_eqb (get_or (carriers_of plan.part_of plan.parts) r 0) q apart)
              ∙ kept ∙ was ∙ elim (cases_lt (get_or (carriers_of plan.part_of plan.parts) r 0) deal.from) [
                | inl early ↦ (λ i. cond ((lt-ltb (get_or (carriers_of plan.part_of plan.parts) r 0) deal.from early ∙ sym (lt-ltb (get_or (carriers_of plan.part_of plan.parts) r 0) (q + 1) (omega arith))) i) (taken_over parents items (above_of plan r)) None)
                | inr due ↦ ap (λ (b : Bool). cond b (taken_over parents items (above_of plan r)) None) (le-ltb (get_or (carriers_of plan.part_of plan.parts) r 0) deal.from due) ∙ elim (cases_lt (get_or (carriers_of plan.part_of plan.parts) r 0) q) [
                  | inl before ↦ sym (cond_none (ltb (get_or (carriers_of plan.part_of plan.parts) r 0) (q + 1)) (taken_over parents items (above_of plan r)) (nothing_over r lt_r due before))
                  | inr behind ↦ sym (ap (λ (b : Bool). cond b (taken_over parents items (above_of plan r)) None) (le-ltb (get_or (carriers_of plan.part_of plan.parts) r 0) (q + 1) (omega arith)))
                ]
              ]
        ]
