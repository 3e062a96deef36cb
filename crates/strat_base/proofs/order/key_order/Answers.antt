use Rattle.std.proofs.Common.{sym, ◌∙◌, ◌+◌, drop, arith}
use Rattle.strat_base.specs.Order.{key_cmp}
use Rattle.strat_base.proofs.NumberLemmas.{number_at_some}
use Rattle.strat_base.proofs.WordLemmas.{word_step, decides, same_word}
use Rattle.strat_base.proofs.order.key_order.Goals as goal

pub returns-then-x-y : goal.returns-then-x-y
returns-then-x-y c =
    let at = c.loop-x.at in
    let step = word_step c.args.a.now c.args.b.now at c.in-Some-Some.x c.in-Some-Some.y (λ i. let f = c.type_inv.a i in omega arith) (λ i. let f = c.type_inv.b i in omega arith) c.in-Some-Some.ensures c.in-Some-Some.ensures' in
    record { ok = c.cmp.ensures ∙ sym (c.loop-x.invariant.2 ∙ step ∙ decides c.in-Some-Some.x c.in-Some-Some.y (key_cmp (drop (at + 8) c.args.a.now) (drop (at + 8) c.args.b.now)) c.if-x-y.true) }

pub loop-x-preserved : goal.loop-x-preserved
loop-x-preserved c =
    let at = c.loop-x.at in
    let nx = number_at_some 8 c.args.a.now at c.in-Some-Some.x c.in-Some-Some.ensures in
    let ny = number_at_some 8 c.args.b.now at c.in-Some-Some.y c.in-Some-Some.ensures' in
    let step = word_step c.args.a.now c.args.b.now at c.in-Some-Some.x c.in-Some-Some.y (λ i. let f = c.type_inv.a i in omega arith) (λ i. let f = c.type_inv.b i in omega arith) c.in-Some-Some.ensures c.in-Some-Some.ensures' in
    (nx.0, ny.0, c.loop-x.invariant.2 ∙ step ∙ same_word c.in-Some-Some.x c.in-Some-Some.y (key_cmp (drop (at + 8) c.args.a.now) (drop (at + 8) c.args.b.now)) c.if-x-y.false)
