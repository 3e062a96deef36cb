use Rattle.std.proofs.Common.{Option, subst}
use Rattle.std.specs.Prelude.{IfSome, IsSome}
use Rattle.strat_model.specs.Faults.{fault_told}
use Rattle.strat_model.specs.Run.{Response}
use Rattle.strat_serve.proofs.TableLemmas.{calm_at, fits_at, fits_few}
use Rattle.strat_serve.specs.Serving.{all_responses}
use Rattle.strat_serve.proofs.laws.bodies_are_answered_in_order.Goals as goal

pub returns-clause-each : goal.returns-clause-each
returns-clause-each c = λ budget i s body r is there told. fits_at s.bodies (all_responses s) i body r is.answered there told

pub returns-clause-few : goal.returns-clause-few
returns-clause-few c = λ budget s is. fits_few s.bodies (all_responses s) is.answered

pub returns-clause-calm : goal.returns-clause-calm
returns-clause-calm c = λ budget i s r is told. calm_at s.answers i r is.calm told

pub returns-clause-fault : goal.returns-clause-fault
returns-clause-fault c = λ budget s r is told. subst (λ (o : Option Response). IfSome o (λ (t : Response). IsSome (fault_told t.answer.reply))) told is.fault
