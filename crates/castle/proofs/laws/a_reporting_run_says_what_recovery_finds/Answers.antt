use Rattle.std.proofs.Common.{Option, inl, inr, sym, ap, subst, ◌∙◌, arith}
use Rattle.def_bytes.specs.Damage.{Read}
use Rattle.strat_model.specs.Ended.{status_of}
use Rattle.def_recovery.specs.Head.{Head}
use Rattle.strat_report.specs.Reporting.{AppendsFront, levels_text}
use Rattle.castle.proofs.HeadlineLemmas.{ended_by}
use Rattle.castle.proofs.OutcomeLemmas.{causes, report_cut, report_damaged, report_done, report_ends_by, report_none, report_same}
use Rattle.castle.proofs.laws.a_reporting_run_says_what_recovery_finds.Goals as goal

pub returns-clause-done : goal.returns-clause-done
returns-clause-done g c = λ path status x y d e f ran exposed is.
    let wrote = report_done status ran.0 ran.1 (g.D.Viewed.view d) x.held y.held ran.2.writes is in (wrote.0, wrote.1 f exposed, wrote.2)

pub returns-clause-damaged : goal.returns-clause-damaged
returns-clause-damaged g c = λ path status x y d e f ran exposed is. report_damaged status ran.0 ran.1 (g.D.Viewed.view d) x.held y.held ran.2.writes f exposed is

pub returns-clause-none : goal.returns-clause-none
returns-clause-none g c = λ path status x y d e f ran exposed is.
    let wrote = report_none status ran.0 ran.1 (g.D.Viewed.view d) x.held y.held ran.2.writes is in
    (ran.2.none (ended_by status 2 ran.0 ran.1 is (λ nine. omega (arith, nine))) f exposed, wrote.0 f exposed, wrote.1)

pub returns-clause-sink : goal.returns-clause-sink
returns-clause-sink g c = λ path status x y d e f ran exposed is.
    let wrote = report_cut status ran.0 ran.1 (g.D.Viewed.view d) x.held y.held ran.2.writes is in
    subst (λ (r : Read (Option Head)). AppendsFront x.held y.held (levels_text r)) (sym (wrote.1 f exposed)) wrote.2

pub returns-clause-same : goal.returns-clause-same
returns-clause-same g c = λ path status x y d e ran.
    (λ is. report_same status ran.0 ran.1 (g.D.Viewed.view d) x.held y.held ran.2.writes is, ran.2.same.same, ran.2.same.images.each)

pub returns-clause-cause : goal.returns-clause-cause
returns-clause-cause g c = λ path status x y d e ran.
    let ends = report_ends_by status ran.0 ran.1 (g.D.Viewed.view d) x.held y.held ran.2.writes in
    let cause = causes status ran.0 ran.1 x y (g.D.Viewed.view d) (g.D.Viewed.view e) ran.2.cause (λ six. omega (arith, ends, six)) in
    (ends, cause.0, cause.1, cause.2, cause.3, cause.4)

pub returns-clause-complete : goal.returns-clause-complete
returns-clause-complete g c = λ path status x y d e f ran exposed source sink disk.
    elim (ran.2.complete (record { source = source; sink = sink; disk = disk }) f exposed) [
      | inl said ↦ inl (ran.1 ∙ ap status_of said.0, said.1)
      | inr short ↦ inr (ran.1 ∙ ap status_of short.0, short.1)
    ]
