use Rattle.def_check.proofs.MarkedLeads.{kept_leads}
use Rattle.def_check.proofs.telling.marked_leads_are_those_of_a_level.Goals as goal

pub returns : goal.returns
returns c = λ level n groups may old few merges. kept_leads n level may old groups few merges
