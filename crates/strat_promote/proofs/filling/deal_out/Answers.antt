use Rattle.std.proofs.Common.{◌≡◌, ◌≤◌, ◌+◌, ◌^◌, ℕ, inl, inr, true, ltb, Bool, List, length, refl, ap, sym, ◌∙◌, subst, arith}
use Rattle.std.specs.List.{list_all}
use Rattle.std.specs.Prelude.{MatchResult}
use Rattle.strat_arena.specs.Items.{entries_of}
use Rattle.strat_arena.specs.declared.items.Item.{Item}
use Rattle.strat_base.specs.Entries.{Entry, is_of}
use Rattle.strat_base.specs.EntryBytes.{fits_fields}
use Rattle.strat_base.proofs.ResultFacts.{err_of}
use Rattle.strat_extent.specs.Blocks.{used_count}
use Rattle.strat_live.specs.Counting.{are_below}
use Rattle.strat_live.specs.Group.{is_descending}
use Rattle.strat_live.proofs.BegunLemmas.{few_items}
use Rattle.strat_split.specs.Dealing.{IsDealing, IsSplitFor, IsNextPart, TakeNothing}
use Rattle.strat_split.specs.declared.parts.Plan.{Plan}
use Rattle.strat_promote.specs.Obstacles.{MeetsObstacle}
use Rattle.strat_promote.proofs.ObstacleLemmas.{gives_kept}
use Rattle.strat_promote.proofs.FilledLemmas.{AreTorn, HaveDealt, none_dealt, torn_more, part_ascends, taken_pass, below_more, dealt_more, all_dealt}
use Rattle.strat_promote.proofs.filling.deal_out.Given.{Over}
use Rattle.strat_promote.proofs.filling.deal_out.Goals as goal
use Rattle.strat_promote.proofs.filling.deal_out.Goals.{After-taken, In_err-push_part}

pub begin-requires-clause-room : goal.begin-requires-clause-room
begin-requires-clause-room g c =
    let few = few_items c.args.items.now _ c.requires.fits.descending c.requires.fits.low in
    omega (arith, few, c.requires.kept.0.small)

pub loop-part-init : goal.loop-part-init
loop-part-init g c = record {
  same = record { plan = refl; hanging = refl; len = refl };
  dealing = c.in_ok-begin.ensures.ok c.args.tree.now.parents (below_more _ _ c.args.items.now c.requires.fits.known c.requires.fits.low);
  dealt = none_dealt (g.D.Disk.view c.args.disk.now) c.args.space.now c.args.tree.now.parents c.args.filling.now.plan c.args.arena.now.pairs c.args.items.now c.args.filling.now.writers.items
      c.begin.new.self.from c.in_ok-begin.ensures.end c.requires.kept.1;
  faults = refl;
  reads = refl;
  few = omega arith;
}

-- what a part takes passes each test of all entries
passes : (g : Over) (c : After-taken g) → (p : Entry → Bool) → list_all p (entries_of c.args.arena.now.pairs c.args.items.now) ≡ true
    → list_all p (entries_of c.args.arena.now.pairs c.taken.result.now) ≡ true
passes g c p all =
    ap (λ (items : List Item). list_all p (entries_of c.args.arena.now.pairs items)) c.taken.ensures.ok
    ∙ taken_pass c.args.arena.now.pairs c.args.items.now c.next_part.new.self.taken c.in-Some.ensures.same p all

pub push_part-requires-clause-fits : goal.push_part-requires-clause-fits
push_part-requires-clause-fits g c = passes g (goal.at.push_part-requires-clause-fits g c).After-taken fits_fields c.requires.fits.lawful

pub push_part-requires-clause-kept : goal.push_part-requires-clause-kept
push_part-requires-clause-kept g c =
    part_ascends c.args.arena.now.pairs c.requires.fits.key c.args.filling.now.writers.items c.loop-part.filling.writers.items c.in-Some.part c.taken.result.now c.requires.fits.ready
    (c.loop-part.invariant.dealt.rest c.in-Some.part c.in-Some.ensures.found.0) (passes g (goal.at.push_part-requires-clause-kept g c).After-taken (is_of c.requires.fits.key) c.requires.fits.keyed)
    (ap is_descending c.taken.ensures.ok ∙ c.in-Some.ensures.fits)

pub push_part-requires-clause-found : goal.push_part-requires-clause-found
push_part-requires-clause-found g c = c.loop-part.invariant.dealt.torn.used c.in-Some.part

-- the items that a part takes are few
taken_few : (g : Over) (c : After-taken g) → length c.taken.result.now ≤ length c.args.filling.now.plan.part_of
taken_few g c =
    let n : ℕ = length c.args.filling.now.plan.part_of in
    let down : is_descending c.taken.result.now ≡ true = ap is_descending c.taken.ensures.ok ∙ c.in-Some.ensures.fits in
    let low : are_below n c.taken.result.now ≡ true = ap (are_below n) c.taken.ensures.ok ∙ c.in-Some.ensures.same (λ item. ltb item.version n) c.requires.fits.low in
    few_items c.taken.result.now n down low

pub loop-part-preserved : goal.loop-part-preserved
loop-part-preserved g c =
    let inv = c.loop-part.invariant in
    let more : HaveDealt (g.D.Disk.view c.args.disk.now) (g.D.Disk.view c.push_part.new.disk) c.args.space.now c.push_part.new.space c.args.tree.now.parents c.args.filling.now.plan c.args.arena.now.pairs
    c.args.items.now c.args.filling.now.writers.items c.push_part.new.writers.items (c.in-Some.part + 1) =
    dealt_more (g.D.Disk.view c.args.disk.now) (g.D.Disk.view c.loop-part.disk) (g.D.Disk.view c.push_part.new.disk) c.args.space.now c.loop-part.space c.push_part.new.space c.args.tree.now.parents
    c.args.filling.now.plan c.args.arena.now.pairs c.args.items.now c.taken.result.now c.args.filling.now.writers.items c.loop-part.filling.writers.items c.push_part.new.writers.items
    c.loop-part.filling.dealer.from c.in-Some.part c.requires.kept.1 inv.dealt c.in-Some.ensures.found.0
    (λ parents split.
    subst (λ (items : List Item). IsNextPart parents c.args.filling.now.plan c.args.items.now c.loop-part.filling.dealer.from c.in-Some.part items) (sym c.taken.ensures.ok)
    (subst (λ (plan : Plan). IsSplitFor c.args.tree.now.parents parents plan c.args.items.now
    → IsNextPart parents plan c.args.items.now c.loop-part.filling.dealer.from c.in-Some.part c.next_part.new.self.taken) inv.same.plan (c.in-Some.ensures.ok parents) split))
    (λ test all. ap (list_all test) c.taken.ensures.ok ∙ c.in-Some.ensures.same test all)
    (ap is_descending c.taken.ensures.ok ∙ c.in-Some.ensures.fits)
    c.in_ok-push_part.field-0 c.in_ok-push_part.ensures.ok c.push_part.ensures.same in
    record {
      same = record { plan = inv.same.plan; hanging = inv.same.hanging; len = more.torn.len };
      dealing = subst (λ (plan : Plan). IsDealing c.args.tree.now.parents plan c.args.items.now c.next_part.new.self) inv.same.plan c.next_part.ensures.kept;
      dealt = subst (λ (from : ℕ). HaveDealt (g.D.Disk.view c.args.disk.now) (g.D.Disk.view c.push_part.new.disk) c.args.space.now c.push_part.new.space c.args.tree.now.parents c.args.filling.now.plan
          c.args.arena.now.pairs c.args.items.now c.args.filling.now.writers.items c.push_part.new.writers.items from) (sym c.in-Some.ensures.found.2) more;
      faults = c.in_ok-push_part.ensures.cause ∙ inv.faults;
      reads = c.push_part.ensures.reads ∙ inv.reads;
      few =
          (let one = c.push_part.ensures.used in
          let few = taken_few g (goal.at.loop-part-preserved g c).After-taken in
          let most = inv.few in
          let next = c.in-Some.ensures.found.2 in
          let late = c.in-Some.ensures.found.0 in
          let below = c.in-Some.ensures.found.1 in
          let parts : length c.loop-part.filling.plan.parts ≡ length c.args.filling.now.plan.parts = ap (λ (p : Plan). length p.parts) inv.same.plan in
          omega (arith, one, few, most, next, late, below, parts, c.requires.kept.0.small));
    }

-- where a part gave up
gave_up : (g : Over) (c : In_err-push_part g) → AreTorn (g.D.Disk.view c.args.disk.now) (g.D.Disk.view c.push_part.new.disk) c.args.space.now c.push_part.new.space
    c.args.filling.now.writers.items c.push_part.new.writers.items
gave_up g c =
    torn_more (g.D.Disk.view c.args.disk.now) (g.D.Disk.view c.loop-part.disk) (g.D.Disk.view c.push_part.new.disk) c.args.space.now c.loop-part.space c.push_part.new.space
    c.args.filling.now.writers.items c.loop-part.filling.writers.items c.push_part.new.writers.items c.in-Some.part (entries_of c.args.arena.now.pairs c.taken.result.now) c.push_part.result
    c.loop-part.invariant.dealt.torn c.push_part.ensures.ok c.push_part.ensures.same

-- where a part gave up, few blocks had become used
used_few : (g : Over) (c : In_err-push_part g) → length c.taken.result.now ≤ length c.args.filling.now.plan.part_of → used_count c.push_part.new.space ≤ used_count c.args.space.now + 2 ^ 28
used_few g c few =
    let one = c.push_part.ensures.used in
    let inv = c.loop-part.invariant in
    let most = inv.few in
    let parts : length c.loop-part.filling.plan.parts ≡ length c.args.filling.now.plan.parts = ap (λ (p : Plan). length p.parts) inv.same.plan in
    let late = c.in-Some.ensures.found.0 in
    let below = c.in-Some.ensures.found.1 in
    omega (arith, one, few, most, parts, late, below, c.requires.kept.0.parts, c.requires.kept.0.small, c.requires.kept.0.labels)

pub returns-in_err-push_part-clause-used : goal.returns-in_err-push_part-clause-used
returns-in_err-push_part-clause-used g c =
    let at = goal.at.returns-in_err-push_part-clause-used g c in
    used_few g at.In_err-push_part (taken_few g at.After-taken)

pub returns-in_err-push_part-clause-fits : goal.returns-in_err-push_part-clause-fits
returns-in_err-push_part-clause-fits g c = λ unfit.
    let pushes = c.push_part.ensures.ok in
    let few = taken_few g (goal.at.returns-in_err-push_part-clause-fits g c).After-taken in
    let inv = c.loop-part.invariant in
    let most = inv.few in
    let first = inv.dealt.torn.takes.first in
    let parts : length c.loop-part.filling.plan.parts ≡ length c.args.filling.now.plan.parts = ap (λ (p : Plan). length p.parts) inv.same.plan in
    let late = c.in-Some.ensures.found.0 in
    let below = c.in-Some.ensures.found.1 in
    elim (c.in_err-push_part.ensures.fits (err_of c.from_residual-in_err-push_part.result _ _ c.from_residual-in_err-push_part.ensures.1 unfit) pushes.was pushes.there) [
      | inl full ↦ inl (c.in-Some.part, (pushes.was, sym (inv.dealt.rest c.in-Some.part late) ∙ pushes.there, omega (arith, full, few, c.requires.kept.0.small)))
      | inr none ↦ inr (omega (arith, none, few, most, first, parts, late, below, c.requires.kept.0.parts, c.requires.kept.0.small))
    ]

pub returns-in_err-push_part-clause-cause : goal.returns-in_err-push_part-clause-cause
returns-in_err-push_part-clause-cause g c =
    subst (λ (n : ℕ). MatchResult c.from_residual-in_err-push_part.result (λ u. g.D.Disk.faults c.push_part.new.disk ≡ n) (λ e. MeetsObstacle e n (g.D.Disk.faults c.push_part.new.disk))) c.loop-part.invariant.faults
    (gives_kept c.from_residual-in_err-push_part.result _ _ _ c.from_residual-in_err-push_part.ensures.1 c.in_err-push_part.ensures.cause)

pub returns-in_err-push_part-clause-found : goal.returns-in_err-push_part-clause-found
returns-in_err-push_part-clause-found g c = (gave_up g (goal.at.returns-in_err-push_part-clause-found g c).In_err-push_part).used

pub returns-in_err-push_part-clause-room : goal.returns-in_err-push_part-clause-room
returns-in_err-push_part-clause-room g c = (gave_up g (goal.at.returns-in_err-push_part-clause-room g c).In_err-push_part).takes

pub returns-in_err-push_part-clause-same : goal.returns-in_err-push_part-clause-same
returns-in_err-push_part-clause-same g c =
    let torn = gave_up g (goal.at.returns-in_err-push_part-clause-same g c).In_err-push_part in
    let same = c.loop-part.invariant.same in
    (torn.torn, record { plan = same.plan; hanging = same.hanging; len = torn.len })

pub returns-clause-ok : goal.returns-clause-ok
returns-clause-ok g c = λ parents split.
    let inv = c.loop-part.invariant in
    all_dealt (g.D.Disk.view c.args.disk.now) (g.D.Disk.view c.loop-part.disk) c.args.space.now c.loop-part.space c.args.tree.now.parents parents c.args.filling.now.plan c.args.arena.now.pairs
    c.args.items.now c.args.filling.now.writers.items c.loop-part.filling.writers.items c.loop-part.filling.dealer.from c.requires.kept.1 inv.dealt split c.requires.kept.0.writers
    (subst (λ (plan : Plan). IsSplitFor c.args.tree.now.parents parents plan c.args.items.now → TakeNothing parents plan c.args.items.now c.loop-part.filling.dealer.from) inv.same.plan
    (c.in_default.ensures.none parents) split)

pub returns-clause-used : goal.returns-clause-used
returns-clause-used g c =
    let most = c.loop-part.invariant.few in
    omega (arith, most, c.requires.kept.0.parts, c.requires.kept.0.small)
