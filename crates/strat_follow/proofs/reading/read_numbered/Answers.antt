use Rattle.std.proofs.Common.{true≢false, sym, ◌∙◌, arith}
use Rattle.strat_base.specs.ChangeView.{change_of}
use Rattle.strat_follow.proofs.ReadingLemmas.{begins, ends_at, short_none, spells}
use Rattle.strat_follow.proofs.reading.read_numbered.Goals as goal

pub returns-in_err-number-clause-none : goal.returns-in_err-number-clause-none
returns-in_err-number-clause-none c =
    rw c.from_residual.ensures (λ n spelled. short_none c.args.body.now n (sym c.get_u32.ensures ∙ c.in_err-number.was) spelled)

pub returns-in_err-change-clause-none : goal.returns-in_err-change-clause-none
returns-in_err-change-clause-none c =
    rw c.from_residual-in_err-change.ensures (λ n spelled. true≢false (sym ((c.in_err-change.ensures).none n.change (begins c.args.body.now n spelled))))

pub returns-then-end-body-clause-none : goal.returns-then-end-body-clause-none
returns-then-end-body-clause-none c = λ n spelled.
    c.if-end-body.true (ends_at c.args.body.now n (change_of c.in_ok-change.change) c.in_ok-change.end spelled (c.in_ok-change.ensures).ok)

pub returns-clause-ok : goal.returns-clause-ok
returns-clause-ok c =
    spells c.args.body.now c.in_ok-number.number (change_of c.in_ok-change.change) c.in_ok-change.end (λ i. omega (arith, c.type_inv.body i))
    (c.in_ok-number.ensures) (c.in_ok-change.ensures).found (c.in_ok-change.ensures).end c.if-end-body.false
