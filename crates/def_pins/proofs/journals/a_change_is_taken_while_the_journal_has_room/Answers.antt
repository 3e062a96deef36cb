use Rattle.std.proofs.Common.{◌<◌, refl, arith}
use Rattle.strat_base.specs.Tree.{climb}
use Rattle.def_pins.specs.States.{after_puts}
use Rattle.def_state.proofs.BreachLemmas.{sound_from_none}
use Rattle.def_state.specs.Sound.{IsSound}
use Rattle.def_pins.proofs.journals.a_change_is_taken_while_the_journal_has_room.Goals as goal

five_sound : IsSound (after_puts 5)
unfolding climb
five_sound = sound_from_none (after_puts 5) (record { tree = refl; pruned = refl; numbered = refl; accepted = refl; fits = refl }) refl

pub returns : goal.returns
unfolding climb
returns c = record {
  ok = record { sound = five_sound; accepted = refl; room = (let less : 5 < 6 = omega arith in less) };
  none = λ takes. let less : 6 < 6 = takes.room in omega (arith, less);
}
