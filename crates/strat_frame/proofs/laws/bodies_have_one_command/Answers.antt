use Rattle.strat_frame.proofs.CommandLemmas.{one_form, form_has_tag}
use Rattle.strat_frame.proofs.laws.bodies_have_one_command.Goals as goal

pub returns-clause-ok : goal.returns-clause-ok
returns-clause-ok c = one_form

pub returns-clause-found : goal.returns-clause-found
returns-clause-found c = form_has_tag
