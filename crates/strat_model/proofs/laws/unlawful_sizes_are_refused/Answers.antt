use Rattle.strat_model.proofs.SpellingLemmas.{unrefused_is_lawful, lawful_is_unrefused, refused_as}
use Rattle.strat_model.proofs.laws.unlawful_sizes_are_refused.Goals as goal

pub returns-clause-none : goal.returns-clause-none
returns-clause-none c = λ request. (unrefused_is_lawful request, lawful_is_unrefused request)

pub returns-clause-err : goal.returns-clause-err
returns-clause-err c = refused_as
