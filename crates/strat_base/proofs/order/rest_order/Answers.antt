use Rattle.std.proofs.Common.{inl, inr, sym, ◌∙◌, arith}
use Rattle.strat_base.proofs.WordLemmas.{ends_decide}
use Rattle.strat_base.proofs.order.rest_order.Goals as goal
use Rattle.strat_base.proofs.order.rest_order.Goals.{then-loop-i-test+else-i-b, else-loop-i-test}

pub returns : goal.returns
returns c =
    let so_far = c.loop-i.invariant in
    record {
      ok = c.cmp-2.ensures
          ∙ ends_decide c.args.a.now c.args.b.now c.loop-i.i so_far.0 so_far.1 (elim c.loop-i-test.branch [ then-loop-i-test+else-i-b w ↦ inr (let past = w.if-i-b in omega (arith, past)) | else-loop-i-test w ↦ inl (let past = w.loop-i-test in omega (arith, past)) ])
          ∙ sym so_far.2;
    }
