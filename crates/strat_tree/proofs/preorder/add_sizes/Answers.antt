use Rattle.std.proofs.Common.{arith, ◌∙◌, ◌-◌, length}
use Rattle.strat_tree.proofs.PassLemmas.{at_each, sized_begins, sized_ends, sizes_next, sizes_fit, passed_len}
use Rattle.strat_tree.proofs.preorder.add_sizes.Goals as goal

pub loop-v-init : goal.loop-v-init
loop-v-init c =
    record {
      len = omega arith;
      some = λ positive. positive;
      sized = sized_begins c.args.parents.now (length c.args.sizes.now) (at_each c.args.sizes.now) c.requires.same;
    }

pub pass_up-requires-clause-room : goal.pass_up-requires-clause-room
pass_up-requires-clause-room c =
    λ p of.
    let both = sizes_fit c.args.parents.now c.requires.kept (length c.args.sizes.now) c.requires.len c.loop-v.v p c.loop-v.sizes c.loop-v-test.true c.loop-v.invariant.sized (rw (← c.parent_at.ensures.ok) of) in
    omega (arith, both.1, c.requires.fits)

pub pass_up-requires-clause-kept : goal.pass_up-requires-clause-kept
pass_up-requires-clause-kept c =
    λ p of.
    let both = sizes_fit c.args.parents.now c.requires.kept (length c.args.sizes.now) c.requires.len c.loop-v.v p c.loop-v.sizes c.loop-v-test.true c.loop-v.invariant.sized (rw (← c.parent_at.ensures.ok) of) in
    omega (arith, both.0, c.loop-v.invariant.len)

pub loop-v-preserved : goal.loop-v-preserved
loop-v-preserved c =
    let next = sizes_next c.args.parents.now c.requires.kept (length c.args.sizes.now) c.requires.len c.loop-v.v c.loop-v.sizes c.loop-v.invariant.len c.loop-v-test.true c.loop-v.invariant.sized in
    record {
      len = rw (c.pass_up.ensures.ok) (passed_len c.loop-v.sizes c.parent_at.result (c.loop-v.v - 1) ∙ c.loop-v.invariant.len);
      some = λ positive. omega arith;
      sized = rw (c.pass_up.ensures.ok, c.parent_at.ensures.ok) next;
    }

pub returns : goal.returns
returns c =
    record {
      ok = sized_ends c.args.parents.now (length c.args.sizes.now) c.loop-v.v (at_each c.loop-v.sizes) (omega arith) c.loop-v.invariant.some c.loop-v.invariant.sized;
    }
