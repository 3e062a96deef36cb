use Rattle.std.proofs.Common.{arith, sym, ◌∙◌, ◌≡◌, ◌-◌}
use Rattle.strat_base.proofs.TreeLemmas.{below_here}
use Rattle.strat_tree.proofs.AncestorLemmas.{seen_as, jump_read, walk_jumps, walk_stays, walk_ends, at_one}
use Rattle.strat_tree.proofs.DepthLemmas.{walk_begins_deep}
use Rattle.strat_tree.proofs.GrownLemmas.{depth_fits}
use Rattle.strat_tree.proofs.tree.Tree.below.Goals as goal

pub returns-then-v-h : goal.returns-then-v-h
returns-then-v-h c =
    let seen = seen_as c.self.inside c.args.self.now c.self.view_is c.self.invariant in
    record { ok = sym (below_here c.args.self.now.parents seen.tree c.args.v c.args.h c.if-v-h.true) }

pub loop-i-init : goal.loop-i-init
loop-i-init c =
    let seen = seen_as c.self.inside c.args.self.now c.self.view_is c.self.invariant in
    (c.jumps_over-i.ensures.ok.0, walk_begins_deep c.args.self.now.parents seen.tree c.args.v c.args.h c.jumps_over-i.result c.requires.1 c.requires.0 (omega (arith, c.if-v-h.false)) (omega (arith, c.depth.ensures.ok, c.jumps_over-i.ensures.ok.1)))

pub index-requires : goal.index-requires
index-requires c =
    let seen = seen_as c.self.inside c.args.self.now c.self.view_is c.self.invariant in
    omega (arith, c.loop-i.invariant.1.known, seen.index.jumps_len)

pub index-requires-2 : goal.index-requires-2
index-requires-2 c =
    let seen = seen_as c.self.inside c.args.self.now c.self.view_is c.self.invariant in
    omega (arith, c.loop-i.invariant.1.known, seen.index.jumps_len)

pub loop-i-preserved-then-next-h : goal.loop-i-preserved-then-next-h
loop-i-preserved-then-next-h c =
    let seen = seen_as c.self.inside c.args.self.now c.self.view_is c.self.invariant in
    let read = jump_read c.self.inside c.args.self.now seen c.loop-i.at (c.loop-i.i - 1) c.index.result.now c.loop-i.invariant.1.known (omega (arith, c.loop-i.invariant.0)) c.index.ensures in
    (omega (arith, c.loop-i.invariant.0), walk_jumps c.args.self.now.parents seen.tree c.args.v c.args.h c.requires.1 c.loop-i.at c.loop-i.i _ (omega arith) c.loop-i.invariant.1 read c.if-next-h.true)

pub loop-i-preserved : goal.loop-i-preserved
loop-i-preserved c =
    let seen = seen_as c.self.inside c.args.self.now c.self.view_is c.self.invariant in
    let read = jump_read c.self.inside c.args.self.now seen c.loop-i.at (c.loop-i.i - 1) c.index.result.now c.loop-i.invariant.1.known (omega (arith, c.loop-i.invariant.0)) c.index.ensures in
    (omega (arith, c.loop-i.invariant.0), walk_stays c.args.self.now.parents seen.tree c.args.v c.args.h c.requires.1 c.loop-i.at c.loop-i.i _ c.loop-i.invariant.1 read c.if-next-h.false)

pub returns : goal.returns
returns c =
    let seen = seen_as c.self.inside c.args.self.now c.self.view_is c.self.invariant in
    let read = jump_read c.self.inside c.args.self.now seen c.loop-i.at 0 c.index-2.result.now c.loop-i.invariant.1.known (omega arith) c.index-2.ensures in
    let end : c.loop-i.i ≡ 0 = omega arith in
    record {
      ok = read ∙ at_one c.args.self.now.parents c.loop-i.at
          ∙ walk_ends c.args.self.now.parents seen.tree c.args.v c.args.h c.requires.1 c.loop-i.at (rw end at c.loop-i.invariant.1);
    }

pub jumps_over-i-requires : goal.jumps_over-i-requires
jumps_over-i-requires c =
    let seen = seen_as c.self.inside c.args.self.now c.self.view_is c.self.invariant in
    let fits = depth_fits c.args.self.now.parents seen.tree seen.few c.args.v c.requires.0 in
    omega (arith, fits, c.depth.ensures.ok)
