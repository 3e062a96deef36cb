use Rattle.def_check.proofs.ToldLemmas.{merged_leads}
use Rattle.def_check.proofs.telling.merged_leads_are_those_of_a_level.Goals as goal

pub returns : goal.returns
returns c = λ level groups may merges. merged_leads level may groups merges
