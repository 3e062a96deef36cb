use Rattle.strat_serve.proofs.TableLemmas.{answers_as_table, keeps_space}
use Rattle.strat_serve.proofs.laws.a_served_run_is_a_run_of_its_table.Goals as goal

pub returns-clause-answers : goal.returns-clause-answers
returns-clause-answers g c = λ x y d e budget how f t shows exposed served.
    (answers_as_table budget x y (g.D.Viewed.view d) (g.D.Viewed.view e) f t shows how served (served.follows f t exposed shows)).0

pub returns-clause-left : goal.returns-clause-left
returns-clause-left g c = λ x y d e budget how f t shows exposed served.
    let a = answers_as_table budget x y (g.D.Viewed.view d) (g.D.Viewed.view e) f t shows how served (served.follows f t exposed shows) in
    (a.0, a.1)

pub returns-clause-trail : goal.returns-clause-trail
returns-clause-trail g c = λ x y d e budget how f t shows exposed served.
    let a = answers_as_table budget x y (g.D.Viewed.view d) (g.D.Viewed.view e) f t shows how served (served.follows f t exposed shows) in
    (a.0, a.2)

pub returns-clause-space : goal.returns-clause-space
returns-clause-space g c = λ x y d e budget how f t shows exposed served.
    let run = served.follows f t exposed shows in
    keeps_space (g.D.Viewed.view d) (g.D.Viewed.view e) f _ _ run.follows
