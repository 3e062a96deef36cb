use Rattle.std.proofs.Common.{arith, length-append, ◌∷◌, [], ap, length, ◌∙◌, ◌-◌, ◌+◌}
use Rattle.strat_model.specs.Pairs.{Pair}
use Rattle.strat_frame.specs.Fields.{pairs_then}
use Rattle.strat_frame.proofs.PageLemmas.{continued, pair_read}
use Rattle.strat_frame.proofs.replies.pairs_then.Goals as goal

pub loop-preserved : goal.loop-preserved
loop-preserved c =
    let pair : Pair = (c.in_ok-key.key.now, c.in_ok-key.value.now) in
    let after = c.in_ok-key.behind.now in
    record {
      ok = ap (λ xs. continued xs (pairs_then (c.args.count - (c.loop.counter + 1)) after)) c.push.ensures.ok
          ∙ pair_read c.args.count c.loop.counter c.loop.pairs pair c.loop.rest.now after c.loop-test.true c.in_ok-key.ensures.ok
          ∙ c.loop.invariant.ok;
      few = omega (arith, ap length c.push.ensures.ok, length-append c.loop.pairs (pair ∷ []), c.loop.invariant.few);
    }
