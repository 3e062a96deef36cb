use Rattle.strat_model.proofs.RunLemmas.{short_of}
use Rattle.strat_model.proofs.laws.interruptions_have_causes.Goals as goal

pub returns-clause-none : goal.returns-clause-none
returns-clause-none c = short_of

pub returns-clause-cause : goal.returns-clause-cause
returns-clause-cause c = λ mem at body response done is. (is.request, is.spelled, is.reaches, is.accepted, is.place)
