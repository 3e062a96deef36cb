use Rattle.def_recovery.proofs.BadLemmas.{contained_at}
use Rattle.def_check.proofs.ToldLemmas.{told_tags, told_agreement, told_density, told_drawn, told_least}
use Rattle.def_check.proofs.telling.rules_are_told_by_numbers.Goals as goal

pub returns : goal.returns
returns c = record {
  tagged = λ parents level groups tree may leads. told_tags parents tree level may groups leads;
  agreeing = λ parents level a groups mine tree may leads here content. told_agreement parents tree level may groups leads a (contained_at a level.arrays here.0 here.1 here.2) mine content;
  dense = λ parents level a groups mine tree may leads here content. told_density parents tree level may groups leads a (contained_at a level.arrays here.0 here.1 here.2) mine content;
  drawn = λ parents level a groups mine tree may leads here content. told_drawn parents tree level may groups leads a (contained_at a level.arrays here.0 here.1 here.2) mine content;
  described = λ parents level a groups mine tree may leads here content. told_least parents tree level may groups leads a (contained_at a level.arrays here.0 here.1 here.2) mine content;
}
