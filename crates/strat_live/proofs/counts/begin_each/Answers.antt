use Rattle.std.proofs.Common.{◌≡◌, ◌<◌, ◌≤◌, ◌-◌, ℕ, List, length, false, sum, get_or, ap, refl, arith}
use Rattle.strat_arena.specs.declared.items.Item.{Item}
use Rattle.strat_live.specs.declared.tops.Interval.{Interval}
use Rattle.strat_live.proofs.BegunLemmas.{few_items, version_below, sum_counted, at_most_sum, none_begun, all_begun, item_passed, item_taken}
use Rattle.strat_live.proofs.counts.begin_each.Goals as goal

-- what is read past the end of a group
abbrev no_item : Item
no_item = record { slot = record { 0 = 0 }; version = 0; gone = false }

pub loop-i-init : goal.loop-i-init
loop-i-init c =
    let empty : length c.args.tops.now.items ≡ 0 = ap (λ (tops : List Interval). length tops) c.requires.none in
    record {
      bound = omega arith;
      added = omega arith;
      held = omega (arith, c.args.tops.now.ok.0);
      room = omega arith;
      right = λ parents tree placed. none_begun (length c.args.begun.now) parents c.args.order.now c.args.group.now c.args.begun.now c.args.tops.now.items c.requires.none;
    }

pub begins-requires : goal.begins-requires
begins-requires c =
    let few : length c.args.group.now ≤ length c.args.begun.now = few_items c.args.group.now (length c.args.begun.now) c.requires.kept c.requires.fits in
    record { room = omega (arith, c.loop-i.invariant.held, c.loop-i.invariant.room, c.requires.end) }

pub overflow_add-begun : goal.overflow_add-begun
overflow_add-begun c =
    let v : ℕ = (get_or c.args.group.now (c.loop-i.i - 1) no_item).version in
    let known : v < length c.args.begun.now = version_below c.args.group.now (length c.args.begun.now) (c.loop-i.i - 1) no_item c.requires.fits (omega (arith, c.loop-i.invariant.bound)) in
    let part : get_or c.loop-i.begun v 0 ≤ sum c.loop-i.begun = at_most_sum c.loop-i.begun v (omega (arith, c.loop-i.auto.begun)) in
    omega (arith, c.loop-i.invariant.added, c.requires.room)

pub loop-i-preserved-then-begins : goal.loop-i-preserved-then-begins
loop-i-preserved-then-begins c =
    let v : ℕ = (get_or c.args.group.now (c.loop-i.i - 1) no_item).version in
    let known : v < length c.args.begun.now = version_below c.args.group.now (length c.args.begun.now) (c.loop-i.i - 1) no_item c.requires.fits (omega (arith, c.loop-i.invariant.bound)) in
    let more = sum_counted c.loop-i.begun v (omega (arith, c.loop-i.auto.begun)) in
    record {
      bound = omega (arith, c.loop-i.invariant.bound);
      added = omega (arith, c.loop-i.invariant.added);
      held = omega (arith, c.loop-i.invariant.held, c.begins.ensures.len);
      room = omega (arith, c.loop-i.invariant.room, c.begins.ensures.kept);
      right = λ parents tree placed. item_taken (length c.args.begun.now) parents tree c.args.order.now placed c.args.group.now no_item c.requires.kept c.requires.fits c.loop-i.i c.loop-i-test.true c.loop-i.invariant.bound c.args.begun.now c.loop-i.begun c.loop-i.auto.begun c.loop-i.tops.items c.begins.new.tops.items (c.loop-i.invariant.right parents tree placed)
          (λ apart. rw c.interval_in.ensures.ok at (c.begins.ensures.ok apart c.if-begins.true));
    }

pub loop-i-preserved : goal.loop-i-preserved
loop-i-preserved c =
    record {
      bound = omega (arith, c.loop-i.invariant.bound);
      added = omega (arith, c.loop-i.invariant.added);
      held = omega (arith, c.loop-i.invariant.held, c.begins.ensures.len);
      room = omega (arith, c.loop-i.invariant.room, c.begins.ensures.kept);
      right = λ parents tree placed. item_passed (length c.args.begun.now) parents tree c.args.order.now placed c.args.group.now no_item c.requires.kept c.requires.fits c.loop-i.i c.loop-i-test.true c.loop-i.invariant.bound c.args.begun.now c.loop-i.begun c.loop-i.tops.items c.begins.new.tops.items (c.loop-i.invariant.right parents tree placed)
          (λ apart. rw c.interval_in.ensures.ok at (c.begins.ensures.found apart c.if-begins.false))
          (c.begins.ensures.same c.if-begins.false);
    }

pub returns : goal.returns
returns c =
    let none : c.loop-i.i ≡ 0 = omega arith in
    record {
      ok = λ parents tree placed. all_begun (length c.args.begun.now) parents c.args.order.now c.args.group.now c.loop-i.i c.args.begun.now c.loop-i.begun c.loop-i.tops.items none refl (c.loop-i.invariant.right parents tree placed);
      room = omega (arith, c.loop-i.invariant.added);
      kept = c.loop-i.invariant.room;
    }
