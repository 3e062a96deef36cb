use Rattle.std.proofs.Common.{refl, sym, subst, ◌∙◌, Option}
use Rattle.std.specs.Prelude.{IsSome, Some}
use Rattle.def_slice.specs.Opened.{OpenPromotion}
use Rattle.strat_store_pins.proofs.settling.a_full_journal_is_promoted_or_published.Goals as goal

pub returns-clause-ok : goal.returns-clause-ok
returns-clause-ok g c = λ d e old new told leaves full. leaves.next refl full

pub returns-clause-kept : goal.returns-clause-kept
returns-clause-kept g c = λ old new is. (is.keeps.slot, is.keeps.sb, is.keeps.chained, is.keeps.levels, is.keeps.filters)

pub returns-clause-room : goal.returns-clause-room
returns-clause-room g c = λ old new is. (is.full, is.room)

pub returns-clause-found : goal.returns-clause-found
returns-clause-found g c = λ old new is.
    let there : IsSome (Some is.promotion) = refl in
    subst (λ (o : Option OpenPromotion). IsSome o) (sym is.open_is) there

pub returns-clause-none : goal.returns-clause-none
returns-clause-none g c = λ d e old new carried told leaves few closed. leaves.below few ∙ closed
