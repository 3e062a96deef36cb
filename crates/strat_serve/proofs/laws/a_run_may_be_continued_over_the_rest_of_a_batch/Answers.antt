use Rattle.strat_serve.proofs.ContinuedLemmas.{continued_few, continued_none, either_end}
use Rattle.strat_serve.proofs.laws.a_run_may_be_continued_over_the_rest_of_a_batch.Goals as goal

pub returns-clause-none : goal.returns-clause-none
returns-clause-none g c = λ budget mem status start x y a none. continued_none mem a.run a.continued none

pub returns-clause-len : goal.returns-clause-len
returns-clause-len g c = λ budget mem status start x y a. continued_few mem a.run a.continued

pub returns-clause-next : goal.returns-clause-next
returns-clause-next g c = λ budget mem status start x y a. (a.next.bodies, a.next.rest, a.next.splits, a.next.next)

pub returns-clause-left : goal.returns-clause-left
returns-clause-left g c = λ e run end f ends image. either_end (g.D.Viewed.view e) run end f ends image
