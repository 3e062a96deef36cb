use Rattle.std.proofs.Common.{◌+◌, refl, ◌∙◌}
use Rattle.strat_split.specs.Hanging.{carriers_of}
use Rattle.strat_split.proofs.DownLemmas.{down_begun, down_on, chain_begun, chain_on, chain_within, chain_known, parts_told, parts_back}
use Rattle.strat_split.proofs.shares.pass_down.Goals as goal

pub loop-at-init : goal.loop-at-init
loop-at-init c =
    let first = chain_begun c.args.plan.now c.args.from c.args.hanging.now c.requires.same c.first_below-at.result c.first_below-at.ensures.ok in
    record {
      shares = c.requires.kept;
      heads = refl;
      within = chain_within c.args.plan.now c.args.from c.args.hanging.now c.requires.same c.first_below-at.result 0 first;
      passed = λ q lt. down_begun (carriers_of c.args.plan.now.part_of c.args.plan.now.parts) c.args.from c.args.tree.now.parents c.args.plan.now c.args.taken.now c.args.shares.now.gifts.items c.first_below-at.result first q (parts_told c.args.plan.now c.args.from c.args.hanging.now c.requires.same q lt);
    }

pub pass_on-requires-clause-fits : goal.pass_on-requires-clause-fits
pass_on-requires-clause-fits c = (c.loop-at.invariant.within c.in-Some.r c.in-Some.is).0

pub next_beside-at-requires : goal.next_beside-at-requires
next_beside-at-requires c =
    let within = c.loop-at.invariant.within c.in-Some.r c.in-Some.is in
    chain_known c.args.plan.now c.args.from c.args.hanging.now c.requires.same c.in-Some.r within.0 within.1 c.requires.fits

pub loop-at-preserved : goal.loop-at-preserved
loop-at-preserved c =
    let within = c.loop-at.invariant.within c.in-Some.r c.in-Some.is in
    let next = chain_on c.args.plan.now c.args.from c.args.hanging.now c.requires.same c.in-Some.r c.next_beside-at.result within.1 c.next_beside-at.ensures.ok in
    record {
      shares = c.pass_on.ensures.kept;
      heads = c.pass_on.ensures.same ∙ c.loop-at.invariant.heads;
      within = chain_within c.args.plan.now c.args.from c.args.hanging.now c.requires.same c.next_beside-at.result (c.in-Some.r + 1) next;
      passed = λ q lt. down_on (carriers_of c.args.plan.now.part_of c.args.plan.now.parts) c.args.from c.args.tree.now.parents c.args.plan.now c.args.taken.now c.args.shares.now.gifts.items
          c.in-Some.r (parts_told c.args.plan.now c.args.from c.args.hanging.now c.requires.same c.in-Some.r within.0) within.1 c.loop-at.at c.next_beside-at.result c.in-Some.is next c.loop-at.shares.gifts.items c.pass_on.new.shares.gifts.items
          (λ s lt_s. c.loop-at.invariant.passed s (parts_back c.args.plan.now c.args.from c.args.hanging.now c.requires.same s lt_s)) c.pass_on.ensures.ok q (parts_told c.args.plan.now c.args.from c.args.hanging.now c.requires.same q lt);
    }
