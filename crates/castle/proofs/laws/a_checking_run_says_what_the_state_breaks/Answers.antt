use Rattle.std.proofs.Common.{◌∷◌, List, Option, inl, inr, ap, subst, ◌∙◌, arith}
use Rattle.def_bytes.specs.Damage.{Read}
use Rattle.def_state.specs.Breach.{Breach}
use Rattle.strat_io.specs.Streams.{Appends}
use Rattle.strat_model.specs.Ended.{status_of}
use Rattle.def_check.specs.Checked.{checked}
use Rattle.def_check.proofs.CheckedLemmas.{blames, checked_state, found_sound, sound_found}
use Rattle.strat_report.specs.Checking.{check_text, end_of_check}
use Rattle.castle.proofs.CheckLemmas.{check_cut, check_damaged, check_ends_by, check_none, check_sound, check_unsound, no_store_found}
use Rattle.castle.proofs.OutcomeLemmas.{causes}
use Rattle.castle.proofs.laws.a_checking_run_says_what_the_state_breaks.Goals as goal

pub returns-clause-done : goal.returns-clause-done
returns-clause-done g c = λ path status x y d e f ran exposed is.
    let told = check_sound (checked f) status ran.0 ran.1 x.held y.held (ran.2.writes f exposed) is in
    let state = found_sound f told.0 in
    (state.0, state.1, state.2, subst (λ (r : Read (Option (List Breach))). Appends x.held y.held (check_text r)) told.0 told.1)

pub returns-clause-err : goal.returns-clause-err
returns-clause-err g c = λ path status x y d e f ran exposed is.
    let told = check_unsound (checked f) status ran.0 ran.1 x.held y.held (ran.2.writes f exposed) is in
    let state = checked_state f (told.0 ∷ told.1) told.2 in
    (state.0, told.0, told.1, state.1, state.2, subst (λ (r : Read (Option (List Breach))). Appends x.held y.held (check_text r)) told.2 told.3)

pub returns-clause-damaged : goal.returns-clause-damaged
returns-clause-damaged g c = λ path status x y d e f ran exposed is.
    let told = check_damaged (checked f) status ran.0 ran.1 x.held y.held (ran.2.writes f exposed) is in
    (told.0, blames f told.0 told.1, subst (λ (r : Read (Option (List Breach))). Appends x.held y.held (check_text r)) told.1 told.2)

pub returns-clause-none : goal.returns-clause-none
returns-clause-none g c = λ path status x y d e f ran exposed is.
    let told = check_none (checked f) status ran.0 ran.1 x.held y.held (ran.2.writes f exposed) is in
    (no_store_found f told.0, subst (λ (r : Read (Option (List Breach))). Appends x.held y.held (check_text r)) told.0 told.1)

pub returns-clause-sink : goal.returns-clause-sink
returns-clause-sink g c = λ path status x y d e f ran exposed is.
    check_cut (checked f) status ran.0 ran.1 x.held y.held (ran.2.writes f exposed) is

pub returns-clause-same : goal.returns-clause-same
returns-clause-same g c = λ path status x y d e ran. (ran.2.same.same, ran.2.same.images.each)

pub returns-clause-cause : goal.returns-clause-cause
returns-clause-cause g c = λ path status x y d e ran.
    let ends = check_ends_by status ran.0 ran.1 ran.2.ends in
    let cause = causes status ran.0 ran.1 x y (g.D.Viewed.view d) (g.D.Viewed.view e) ran.2.cause (λ six. omega (arith, ends, six)) in
    (ends, cause.0, cause.1, cause.2, cause.3, cause.4)

pub returns-clause-complete : goal.returns-clause-complete
returns-clause-complete g c = λ path status x y d e f ran exposed source sink disk.
    elim (ran.2.complete (record { source = source; sink = sink; disk = disk }) f exposed) [
      | inl said ↦ inl (ran.1 ∙ ap status_of said.0, said.1)
      | inr short ↦ inr (ran.1 ∙ ap status_of short.0, short.1)
    ]

pub returns-clause-found : goal.returns-clause-found
returns-clause-found g c = λ path status x y d e f s ran exposed reads sound source sink disk.
    elim (ran.2.complete (record { source = source; sink = sink; disk = disk }) f exposed) [
      | inl said ↦ inl (ran.1 ∙ ap status_of said.0 ∙ ap (λ (r : Read (Option (List Breach))). status_of (end_of_check r)) (sound_found f s reads sound))
      | inr short ↦ inr (ran.1 ∙ ap status_of short.0)
    ]
