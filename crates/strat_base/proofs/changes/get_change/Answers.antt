use Rattle.std.proofs.Common.{drop, None, sym, ap, ◌∙◌, arith}
use Rattle.strat_base.specs.Change.{change_in, BeginsWithChange}
use Rattle.strat_base.specs.ChangeView.{change_of}
use Rattle.strat_base.proofs.NumberLemmas.{AreBytes-drop}
use Rattle.strat_base.proofs.ChangeLemmas.{change_in-some}
use Rattle.strat_base.proofs.PlacedLemmas.{rest_of}
use Rattle.strat_base.proofs.FoundLemmas.{change_at-is, change_in-past, none_begins}
use Rattle.strat_base.proofs.changes.get_change.Goals as goal
use Rattle.strat_base.proofs.changes.get_change.Goals.{In_ok-change}

begins : (c : In_ok-change) → BeginsWithChange (drop c.args.at c.args.bytes.now) (change_of c.in_ok-change.change)
begins c =
    change_in-some (drop c.args.at c.args.bytes.now) _
    (AreBytes-drop c.args.at c.args.bytes.now (λ i. omega (arith, c.type_inv.bytes i)))
    (ap change_in (sym (rest_of c.args.bytes.now c.args.at)) ∙ c.in_ok-change.ensures)

pub returns-then-at-bytes-clause-ok : goal.returns-then-at-bytes-clause-ok
returns-then-at-bytes-clause-ok c = change_at-is c.args.bytes.now c.args.at None (change_in-past c.args.bytes.now c.args.at (omega arith))

pub returns-in_err-change-clause-none : goal.returns-in_err-change-clause-none
returns-in_err-change-clause-none c = λ change there.
    absurd (none_begins (drop c.args.at c.args.bytes.now) change (ap change_in (sym (rest_of c.args.bytes.now c.args.at)) ∙ c.in_err-change.ensures) there)

pub change_size-requires : goal.change_size-requires
change_size-requires c = (begins (goal.at.change_size-requires c).In_ok-change).lawful

pub returns-clause-found : goal.returns-clause-found
returns-clause-found c = begins (goal.at.returns-clause-found c).In_ok-change
