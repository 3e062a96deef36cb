use Rattle.std.proofs.Common.{◌≡◌, ◌<◌, ◌≤◌, ◌+◌, ◌-◌, ◌++◌, ℕ, List, length, get_or, Option, Some, None, refl, sym, ap, ◌∙◌, subst, arith, length-append}
use Rattle.std.specs.Option.{option_map_or}
use Rattle.std.proofs.lemmas.List.{length-map}
use Rattle.strat_arena.specs.declared.items.Item.{Item}
use Rattle.strat_split.specs.Chains.{first_labelled}
use Rattle.strat_split.specs.Shares.{labels_in}
use Rattle.strat_split.proofs.FollowLemmas.{lead_within, leads_all, leads_on, lead_nearer, lead_few}
use Rattle.strat_split.proofs.LeadLemmas.{rest_leads}
use Rattle.strat_split.proofs.hand.add_leads.Goals as goal

-- what is taken so far are items before the next lead
before : (at : Option ℕ) (i n len : ℕ) → at ≡ Some i → len ≤ option_map_or (λ j. j) at n → len ≤ i
before at i n len is few = subst (λ (o : Option ℕ). len ≤ option_map_or (λ j. j) o n) is few

pub loop-at-init : goal.loop-at-init
loop-at-init c =
    let none : length c.args.taken.now.items ≡ 0 = ap (λ (ys : List Item). length ys) c.requires.none in
    record {
      within = lead_within c.args.hand.now.plan.now c.args.hand.now.items.now c.args.share.part c.args.share.head 0 c.requires.kept.first;
      so_far = leads_all c.args.hand.now.plan.now c.args.hand.now.items.now c.args.share.part c.args.share.head c.args.taken.now.items c.requires.kept.first c.requires.none;
      few = omega (arith, none);
      room = refl;
    }

pub bounds-hand-i : goal.bounds-hand-i
bounds-hand-i c = (c.loop-at.invariant.within c.in-Some.i c.in-Some.is).0

pub push_reserved-requires : goal.push_reserved-requires
push_reserved-requires c =
    let within = c.loop-at.invariant.within c.in-Some.i c.in-Some.is in
    let few : length c.loop-at.taken.items ≤ c.in-Some.i = before c.loop-at.at c.in-Some.i (length c.args.hand.now.items.now) (length c.loop-at.taken.items) c.in-Some.is c.loop-at.invariant.few in
    omega (arith, few, within.0, c.requires.room, c.loop-at.invariant.room)

pub bounds-nexts-i : goal.bounds-nexts-i
bounds-nexts-i c =
    let within = c.loop-at.invariant.within c.in-Some.i c.in-Some.is in
    omega (arith, within.0, c.requires.kept.nexts_len, length-map c.args.hand.now.items.now (λ (item : Item). get_or c.args.hand.now.plan.now.part_of item.version 0))

pub loop-at-smaller : goal.loop-at-smaller
loop-at-smaller c =
    let within = c.loop-at.invariant.within c.in-Some.i c.in-Some.is in
    let next : get_or c.args.nexts.now c.in-Some.i None ≡ first_labelled (labels_in c.args.hand.now) c.args.share.part (c.in-Some.i + 1) = c.requires.kept.next c.in-Some.i (omega (arith, within.0, length-map c.args.hand.now.items.now (λ (item : Item). get_or c.args.hand.now.plan.now.part_of item.version 0))) within.1 in
    let P : Option ℕ → Type 0 = λ o. option_map_or (λ j. length c.args.hand.now.items.now - j) (get_or c.args.nexts.now c.in-Some.i None) 0 < option_map_or (λ j. length c.args.hand.now.items.now - j) o 0 in
    subst P (sym c.in-Some.is) (lead_nearer c.args.hand.now.plan.now c.args.hand.now.items.now c.args.share.part c.in-Some.i within.0 within.1 (get_or c.args.nexts.now c.in-Some.i None) next)

pub loop-at-preserved : goal.loop-at-preserved
loop-at-preserved c =
    let within = c.loop-at.invariant.within c.in-Some.i c.in-Some.is in
    let few : length c.loop-at.taken.items ≤ c.in-Some.i = before c.loop-at.at c.in-Some.i (length c.args.hand.now.items.now) (length c.loop-at.taken.items) c.in-Some.is c.loop-at.invariant.few in
    let next : get_or c.args.nexts.now c.in-Some.i None ≡ first_labelled (labels_in c.args.hand.now) c.args.share.part (c.in-Some.i + 1) = c.requires.kept.next c.in-Some.i (omega (arith, within.0, length-map c.args.hand.now.items.now (λ (item : Item). get_or c.args.hand.now.plan.now.part_of item.version 0))) within.1 in
    let more = lead_few c.args.hand.now.plan.now c.args.hand.now.items.now c.args.share.part c.in-Some.i within.0 within.1 (get_or c.args.nexts.now c.in-Some.i None) next (length c.loop-at.taken.items) few in
    let longer : length c.push_reserved.new.self.items ≡ length c.loop-at.taken.items + 1 = ap (λ (ys : List Item). length ys) c.push_reserved.ensures.items ∙ length-append c.loop-at.taken.items _ in
    record {
      within = lead_within c.args.hand.now.plan.now c.args.hand.now.items.now c.args.share.part (get_or c.args.nexts.now c.in-Some.i None) (c.in-Some.i + 1) next;
      so_far = ap (λ (ys : List Item). ys ++ rest_leads c.args.hand.now.plan.now c.args.hand.now.items.now c.args.share.part (get_or c.args.nexts.now c.in-Some.i None)) c.push_reserved.ensures.items ∙ leads_on c.args.hand.now.plan.now c.args.hand.now.items.now c.args.share.part c.in-Some.i within.0 within.1 (get_or c.args.nexts.now c.in-Some.i None) next c.loop-at.at c.loop-at.taken.items _ c.in-Some.is c.loop-at.invariant.so_far;
      few = omega (arith, longer, more);
      room = c.push_reserved.ensures.capacity ∙ c.loop-at.invariant.room;
    }
