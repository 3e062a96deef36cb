use Rattle.castle.proofs.AnyImageLemmas.{each_again, ran_whole}
use Rattle.castle.proofs.HeadlineLemmas.{as_table, trail_by}
use Rattle.castle.proofs.any_image.a_serving_run_may_begin_at_any_image.Goals as goal

pub returns-clause-trail : goal.returns-clause-trail
returns-clause-trail g c = λ path status x y d e f t shows exposed each ran.
    let a = trail_by x y (g.D.Viewed.view d) (g.D.Viewed.view e) f t shows exposed status ran.0 ran.1 (as_table x y (g.D.Viewed.view d) (g.D.Viewed.view e) f t shows exposed ran.0 ran.2.outcome ran.2.refuses) in
    (a.0, ran_whole (g.D.Viewed.view d) (g.D.Viewed.view e) each status a.0.run a.0.continued.end f a.1)

pub returns-clause-again : goal.returns-clause-again
returns-clause-again g c = λ path status x y d e f t shows exposed each ran passes.
    let a = trail_by x y (g.D.Viewed.view d) (g.D.Viewed.view e) f t shows exposed status ran.0 ran.1 (as_table x y (g.D.Viewed.view d) (g.D.Viewed.view e) f t shows exposed ran.0 ran.2.outcome ran.2.refuses) in
    each_again (g.D.Viewed.view d) (g.D.Viewed.view e) each status a.0.run a.0.continued.end f passes.later
    (ran_whole (g.D.Viewed.view d) (g.D.Viewed.view e) each status a.0.run a.0.continued.end f a.1)

pub returns-clause-one : goal.returns-clause-one
returns-clause-one g c = λ d image one. (one.table, one.shows, (one.image, one.left, one.same))
