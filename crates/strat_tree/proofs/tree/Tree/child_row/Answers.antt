use Rattle.std.proofs.Common.{arith, ◌∙◌, ◌≢◌, ◌<◌, ◌-◌, length, replicate, refl, get_or, below_more, length-set, get_or-set_same, get_or-set_other}
use Rattle.strat_tree.proofs.AncestorLemmas.{seen_as, jump_read, row_begins, row_next, row_known}
use Rattle.strat_tree.proofs.tree.Tree.child_row.Goals as goal

pub loop-i-init : goal.loop-i-init
loop-i-init c = (refl, row_begins c.args.self.now.parents c.args.p (replicate 14 c.args.p) refl)

pub index-requires : goal.index-requires
index-requires c =
    let seen = seen_as c.self.inside c.args.self.now c.self.view_is c.self.invariant in
    let known = row_known c.args.self.now.parents seen.tree c.args.p c.loop-i.row c.loop-i.i c.requires c.loop-i.auto.i c.loop-i.invariant.1 in
    omega (arith, known, seen.index.jumps_len)

pub loop-i-preserved : goal.loop-i-preserved
loop-i-preserved c =
    let seen = seen_as c.self.inside c.args.self.now c.self.view_is c.self.invariant in
    let i = c.loop-i.i in
    let row = c.loop-i.row in
    let within : i < length row = omega (arith, c.loop-i.invariant.0) in
    let known = row_known c.args.self.now.parents seen.tree c.args.p row i c.requires c.loop-i.auto.i c.loop-i.invariant.1 in
    let read = jump_read c.self.inside c.args.self.now seen (get_or row (i - 1) 0) (i - 1) c.index.result.now known (omega arith) c.index.ensures in (
      length-set row i _ ∙ c.loop-i.invariant.0,
      below_more _ _
          (λ k h. let other : k ≢ i = omega arith in get_or-set_other row i k _ 0 other ∙ c.loop-i.invariant.1 k h)
          (get_or-set_same row i _ 0 within
          ∙ row_next c.args.self.now.parents c.args.p (get_or row (i - 1) 0) i _ c.loop-i.auto.i (c.loop-i.invariant.1 (i - 1) (omega arith)) read),
    )
