use Rattle.std.proofs.Common.{ap, ◌∙◌}
use Rattle.strat_base.specs.EntryView.{entry_of}
use Rattle.strat_array.specs.declared.place.Place.{Place}
use Rattle.strat_array.proofs.KeptLemmas.{stands_after}
use Rattle.strat_array.proofs.FindLemmas.{left_held}
use Rattle.strat_base.proofs.ResultFacts.{err_of}
use Rattle.strat_array.proofs.walk.entry_at.Goals as goal

pub returns-in_err-at-clause-damaged : goal.returns-in_err-at-clause-damaged
returns-in_err-at-clause-damaged g c = λ b torn. c.in_err-at.ensures.damaged b (err_of c.from_residual.result _ _ c.from_residual.ensures.1 torn)

pub returns-in_default-clause-found : goal.returns-in_default-clause-found
returns-in_default-clause-found g c = rw c.in_default.is at c.in_ok-at.ensures.ok

pub returns-clause-found : goal.returns-clause-found
returns-clause-found g c = λ lists stands.
    let on = c.in_ok-at.ensures in
    let settles = rw c.in-Some.is at on.ok in
    settles lists stands
    ∙ left_held _ _ _ _ _ lists (stands_after _ _ _ _ _ _ _ _ lists on.same stands) c.in-Some.at (entry_of c.entry-entry.result) (rw c.in-Some.is at on.found) c.entry-entry.ensures.ok c.next.result
    (ap (λ (p : Place). p.block) c.next.ensures.ok) (ap (λ (p : Place). p.index) c.next.ensures.ok)
