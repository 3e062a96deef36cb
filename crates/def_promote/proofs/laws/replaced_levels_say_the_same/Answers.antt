use Rattle.def_promote.proofs.ReplacedLemmas.{replaced_says, replaced_ordered, replaced_sound}
use Rattle.def_promote.proofs.laws.replaced_levels_say_the_same.Goals as goal

pub returns : goal.returns
returns c = record {
  says = λ s j taken kept fresh entries over written next_array is r. replaced_says s is j taken kept fresh entries over r written next_array;
  ordered = λ s j taken kept fresh entries over written next_array is r. replaced_ordered s is j taken kept fresh entries over r written next_array;
  sound = λ s j taken kept fresh entries over written next_array sound r. replaced_sound s sound j taken kept fresh entries over r written next_array;
}
