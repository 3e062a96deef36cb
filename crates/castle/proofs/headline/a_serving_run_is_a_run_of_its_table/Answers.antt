use Rattle.std.proofs.Common.{refl, sym, subst, arith}
use Rattle.strat_model.specs.declared.ended.Ended.TheVariants as ended
use Rattle.castle.specs.Outcomes.{EndsAsInput}
use Rattle.castle.proofs.HeadlineLemmas.{as_table, answered_by, finds_few, left_by, trail_by, ended_by, other_by}
use Rattle.castle.proofs.headline.a_serving_run_is_a_run_of_its_table.Goals as goal

pub returns-clause-answers : goal.returns-clause-answers
returns-clause-answers g c = λ path status x y d e f t shows exposed ran.
    answered_by x y (g.D.Viewed.view d) (g.D.Viewed.view e) f t shows exposed status ran.0 ran.1 (as_table x y (g.D.Viewed.view d) (g.D.Viewed.view e) f t shows exposed ran.0 ran.2.outcome ran.2.refuses)

pub returns-clause-left : goal.returns-clause-left
returns-clause-left g c = λ path status x y d e f t shows exposed ran.
    left_by x y (g.D.Viewed.view d) (g.D.Viewed.view e) f t shows exposed status ran.0 ran.1 (as_table x y (g.D.Viewed.view d) (g.D.Viewed.view e) f t shows exposed ran.0 ran.2.outcome ran.2.refuses)

pub returns-clause-trail : goal.returns-clause-trail
returns-clause-trail g c = λ path status x y d e f t shows exposed ran.
    trail_by x y (g.D.Viewed.view d) (g.D.Viewed.view e) f t shows exposed status ran.0 ran.1 (as_table x y (g.D.Viewed.view d) (g.D.Viewed.view e) f t shows exposed ran.0 ran.2.outcome ran.2.refuses)

pub returns-clause-space : goal.returns-clause-space
returns-clause-space g c = λ path status x y d e f t shows exposed ran.
    (as_table x y (g.D.Viewed.view d) (g.D.Viewed.view e) f t shows exposed ran.0 ran.2.outcome ran.2.refuses).space

pub returns-clause-journal : goal.returns-clause-journal
returns-clause-journal g c = λ path status x y d e f t shows exposed ran device sink memory.
    finds_few x y (g.D.Viewed.view d) (g.D.Viewed.view e) f t shows exposed ran.0 ran.2.outcome ran.2.refuses
    (other_by status 5 ran.0 ended.Device ran.1 refl device) (other_by status 7 ran.0 ended.Sink ran.1 refl sink) (other_by status 8 ran.0 ended.NoMemory ran.1 refl memory)

pub returns-clause-cause : goal.returns-clause-cause
returns-clause-cause g c = λ path status x y d e ran.
    let cause = ran.2.cause in (
      λ is. cause.device (ended_by status 5 ran.0 ran.1 is (λ nine. omega (arith, nine))),
      λ is. cause.source (ended_by status 6 ran.0 ran.1 is (λ nine. omega (arith, nine))),
      λ is. cause.sink (ended_by status 7 ran.0 ran.1 is (λ nine. omega (arith, nine))),
      λ other. cause.source_same (other_by status 6 ran.0 ended.Source ran.1 refl other),
      λ other. cause.sink_same (other_by status 7 ran.0 ended.Sink ran.1 refl other),
      λ other and. cause.disk_same (other_by status 5 ran.0 ended.Device ran.1 refl other) (other_by status 7 ran.0 ended.Sink ran.1 refl and),
    )

pub returns-clause-complete : goal.returns-clause-complete
returns-clause-complete g c = λ path status x y d e f t shows exposed ran source sink disk.
    subst EndsAsInput (sym ran.1) (ran.2.sound (record { source = source; sink = sink; disk = disk }) f t exposed shows)
