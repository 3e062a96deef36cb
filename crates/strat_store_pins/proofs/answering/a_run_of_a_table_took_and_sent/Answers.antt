use Rattle.std.proofs.Common.{◌≡◌, Option, refl, subst}
use Rattle.std.specs.Prelude.{IfSome}
use Rattle.def_crash.specs.Faults.{Rose}
use Rattle.strat_model.specs.Answer.{refusal}
use Rattle.strat_model.specs.Run.{Interruption}
use Rattle.strat_model.specs.declared.replies.Refusal.TheVariants as why
use Rattle.strat_store_pins.proofs.answering.a_run_of_a_table_took_and_sent.Goals as goal

pub returns-clause-ok : goal.returns-clause-ok
returns-clause-ok c = λ budget mem status start x y a. (a.ended, a.is, a.took, a.within, a.adds, a.until)

pub returns-clause-fault : goal.returns-clause-fault
returns-clause-fault c = λ budget mem status start x y h a is.
    subst (λ (o : Option Interruption). IfSome o (λ (i : Interruption). (i.response.answer ≡ refusal why.DeviceFault) × Rose x.disk_faults y.disk_faults)) is a.broken

pub returns-clause-first : goal.returns-clause-first
returns-clause-first c = λ image t shows. (refl, refl)
