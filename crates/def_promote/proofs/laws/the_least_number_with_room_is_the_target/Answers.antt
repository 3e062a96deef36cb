use Rattle.def_promote.proofs.TargetLemmas.{leads_add_up, least_target}
use Rattle.def_promote.proofs.laws.the_least_number_with_room_is_the_target.Goals as goal

pub returns : goal.returns
returns c = record {
  sum = λ s j sound. leads_add_up s sound j;
  target = λ s j sound least most room crowded full. least_target s sound j least most room crowded full;
}
