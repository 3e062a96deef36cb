use Rattle.strat_serve.proofs.SeveralLemmas.{gave_whole, goes_whole}
use Rattle.strat_serve.proofs.TableLemmas.{answers_as_table}
use Rattle.strat_loop.specs.World.{beside}
use Rattle.strat_serve.proofs.laws.runs_may_begin_at_any_image.Goals as goal

pub returns-clause-gave_up : goal.returns-clause-gave_up
returns-clause-gave_up g c = λ x y d e how f exposed leaves each gave. gave_whole (beside x (g.D.Viewed.view d)) (beside y (g.D.Viewed.view e)) f exposed leaves each how gave

pub returns-clause-served : goal.returns-clause-served
returns-clause-served g c = λ x y d e budget how f t shows exposed each served.
    let run = served.follows f t exposed shows in
    let a = answers_as_table budget x y (g.D.Viewed.view d) (g.D.Viewed.view e) f t shows how served run in (
      a.0,
      goes_whole (g.D.Viewed.view d) (g.D.Viewed.view e) each a.0.run a.0.continued.end f a.2,
    )
