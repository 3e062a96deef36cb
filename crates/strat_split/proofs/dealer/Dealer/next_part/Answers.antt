use Rattle.std.proofs.Common.{◌||◌, None, arith, cond, eqb, get_or, ltb, length, subst, sym, ap, ◌∙◌, refl}
use Rattle.std.specs.Option.{is_some}
use Rattle.strat_live.specs.Counting.{are_below}
use Rattle.strat_live.specs.Group.{is_descending}
use Rattle.strat_arena.specs.declared.items.Item.{Item}
use Rattle.strat_split.specs.Dealing.{Deal, passed_on, IsDealing, IsNextPart, TakeNothing}
use Rattle.strat_split.specs.Hanging.{carriers_of}
use Rattle.strat_split.specs.DealerFields.{deal_of}
use Rattle.strat_split.proofs.DealtLemmas.{take_nothing, next_part}
use Rattle.strat_split.proofs.NextLemmas.{IsStep, step_of, still_due, lead_chain, taken_all, taken_descending, taken_some, dealing_next}
use Rattle.strat_split.proofs.dealer.Dealer.next_part.Goals as goal

pub returns-in_default-clause-none : goal.returns-in_default-clause-none
returns-in_default-clause-none c = λ parents ready.
    let dealing : IsDealing c.args.tree.now.parents c.args.plan.now c.args.items.now (deal_of c.self.inside) = subst (IsDealing c.args.tree.now.parents c.args.plan.now c.args.items.now) (sym c.self.view_is) c.requires.kept in
    let none = c.in_default.ensures.none in
    let nothing : TakeNothing parents c.args.plan.now c.args.items.now c.self.inside.from = take_nothing c.args.tree.now.parents parents c.args.plan.now c.args.items.now (deal_of c.self.inside) dealing ready
    (λ r. (λ i. is_some (get_or (sym none.0 i) r None) || is_some (get_or (sym none.1 i) r None)) ∙ none.2 r) in
    subst (λ (d : Deal). TakeNothing parents c.args.plan.now c.args.items.now d.from) c.self.view_is nothing

pub take_share-requires-clause-kept : goal.take_share-requires-clause-kept
take_share-requires-clause-kept c =
    let dealing : IsDealing c.args.tree.now.parents c.args.plan.now c.args.items.now (deal_of c.self.inside) = subst (IsDealing c.args.tree.now.parents c.args.plan.now c.args.items.now) (sym c.self.view_is) c.requires.kept in
    let share = c.in-Some.ensures.ok in
    lead_chain c.args.tree.now.parents c.args.plan.now c.args.items.now (deal_of c.self.inside) dealing c.in-Some.share.part (omega (arith, dealing.heads_len, share.0)) (still_due c.args.tree.now.parents c.args.plan.now c.args.items.now (deal_of c.self.inside) dealing c.in-Some.share.part c.in-Some.ensures.found.0) c.in-Some.share.head c.deref.result.now share.1 c.deref.ensures.value

step : (c : goal.After-pass_down) → IsStep c.args.tree.now.parents c.args.plan.now c.args.items.now (deal_of c.self.inside) c.in-Some.share.part c.take_share.new.taken.items
step c =
    let share = c.in-Some.ensures.ok in
    step_of c.args.tree.now.parents c.args.plan.now c.args.items.now (deal_of c.self.inside) c.args.self.now c.in-Some.share.part c.in-Some.share.gift c.take_share.new.taken.items c.self.view_is c.requires.kept share.0 c.in-Some.ensures.found.0 c.in-Some.ensures.found.1 share.2 c.take_share.ensures.ok

pub pass_down-requires-clause-found : goal.pass_down-requires-clause-found
pass_down-requires-clause-found c =
    let share = c.in-Some.ensures.ok in
    let s = step_of c.args.tree.now.parents c.args.plan.now c.args.items.now (deal_of c.self.inside) c.args.self.now c.in-Some.share.part c.in-Some.share.gift c.take_share.new.taken.items c.self.view_is c.requires.kept share.0 c.in-Some.ensures.found.0 c.in-Some.ensures.found.1 share.2 c.take_share.ensures.ok in (
      ap is_descending c.deref-2.ensures.value ∙ taken_descending c.args.tree.now.parents c.args.plan.now c.args.items.now (deal_of c.self.inside) s.dealing c.in-Some.share.part s.lt c.take_share.new.taken.items s.taken_is,
      ap (are_below (length c.args.tree.now.parents)) c.deref-2.ensures.value ∙ taken_all c.args.tree.now.parents c.args.plan.now c.args.items.now (deal_of c.self.inside) s.dealing c.in-Some.share.part s.lt c.take_share.new.taken.items s.taken_is (λ (item : Item). ltb item.version (length c.args.tree.now.parents)) s.dealing.known,
    )

pub returns-clause-ok : goal.returns-clause-ok
returns-clause-ok c = λ parents ready.
    let s = step c in
    let next = next_part c.args.tree.now.parents parents c.args.plan.now c.args.items.now (deal_of c.self.inside) s.dealing ready c.in-Some.share.part s.late s.lt s.least c.take_share.new.taken.items s.taken_is in
    subst (λ (d : Deal). IsNextPart parents c.args.plan.now c.args.items.now d.from c.in-Some.share.part c.take_share.new.taken.items) c.self.view_is next

pub returns-clause-kept : goal.returns-clause-kept
returns-clause-kept c =
    let s = step c in
    dealing_next c.args.tree.now.parents c.args.plan.now c.args.items.now (deal_of c.self.inside) _ s.dealing c.in-Some.share.part s.lt s.late s.least c.take_share.new.taken.items s.taken_is
    c.self.invariant.shares.gifts_len (c.pass_down.ensures.same ∙ c.in-Some.ensures.same.0) refl refl
    (λ r lt. c.pass_down.ensures.ok r lt ∙ (λ i. cond (eqb (get_or (carriers_of c.args.plan.now.part_of c.args.plan.now.parts) r 0) c.in-Some.share.part) (passed_on c.args.tree.now.parents c.args.plan.now (c.deref-2.ensures.value i) c.in-Some.share.part (c.in-Some.ensures.same.1 i) r) (get_or (c.in-Some.ensures.same.1 i) r None)))

pub returns-clause-len : goal.returns-clause-len
returns-clause-len c =
    let s = step c in
    taken_some c.args.tree.now.parents c.args.plan.now c.args.items.now (deal_of c.self.inside) s.dealing c.in-Some.share.part s.lt c.take_share.new.taken.items s.taken_is s.late s.work

pub returns-clause-fits : goal.returns-clause-fits
returns-clause-fits c =
    let s = step c in
    taken_descending c.args.tree.now.parents c.args.plan.now c.args.items.now (deal_of c.self.inside) s.dealing c.in-Some.share.part s.lt c.take_share.new.taken.items s.taken_is

pub returns-clause-same : goal.returns-clause-same
returns-clause-same c =
    let s = step c in
    taken_all c.args.tree.now.parents c.args.plan.now c.args.items.now (deal_of c.self.inside) s.dealing c.in-Some.share.part s.lt c.take_share.new.taken.items s.taken_is
