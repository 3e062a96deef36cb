use Rattle.std.proofs.Common.{◌+◌, ◌≤◌, length, sym, ◌∙◌, arith}
use Rattle.strat_base.proofs.NumberLemmas.{number_at_some}
use Rattle.strat_frame.proofs.FrameLemmas.{begins_with_frame}
use Rattle.strat_frame.proofs.deframer.look_at.Goals as goal

pub returns-clause-ok : goal.returns-clause-ok
returns-clause-ok c =
    let there = number_at_some 4 c.args.held.now 0 c.in-Some.length (sym c.in-Some.is ∙ c.get_u32.ensures) in
    let long : 4 + c.in-Some.length ≤ length c.args.held.now = omega (arith, there.0, c.if-held-body_len.false) in
    (begins_with_frame c.args.held.now c.in-Some.length (λ i. omega (arith, c.type_inv.held i)) there.1 long, c.if-body_len-gt-BODY_MAX.false, long)
