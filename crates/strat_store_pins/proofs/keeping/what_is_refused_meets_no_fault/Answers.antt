use Rattle.std.proofs.Common.{◌≡◌, [], Option, None, Some, refl, subst}
use Rattle.strat_model.specs.Request.{Get, NextPairs}
use Rattle.strat_model.specs.declared.replies.Refusal.{Refusal}
use Rattle.strat_model.specs.declared.replies.Refusal.TheVariants as why
use Rattle.strat_store.specs.Applying.{refusal_of_look}
use Rattle.strat_memory.specs.Memory.{Memory}
use Rattle.strat_store_pins.proofs.keeping.what_is_refused_meets_no_fault.Goals as goal

pub returns-clause-version : goal.returns-clause-version
returns-clause-version g c = λ d old same tells.
    let e : ◌≡◌ {A = Option Refusal} (Some why.UnknownVersion) None = subst (λ (m : Memory). refusal_of_look m (Get 1 []) ≡ None) same (tells.unrefused refl) in
    cc

pub returns-clause-cursor : goal.returns-clause-cursor
returns-clause-cursor g c = λ d old same tells.
    let e : ◌≡◌ {A = Option Refusal} (Some why.UnknownCursor) None = subst (λ (m : Memory). refusal_of_look m (NextPairs 3 1) ≡ None) same (tells.unrefused refl) in
    cc
