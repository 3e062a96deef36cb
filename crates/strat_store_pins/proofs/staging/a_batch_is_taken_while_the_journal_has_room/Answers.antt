use Rattle.std.proofs.Common.{◌≡◌, ◌≤◌, true, false, refl, arith}
use Rattle.strat_base.specs.Tree.{climb}
use Rattle.def_publish.proofs.WorkedLemmas.{logged_stands}
use Rattle.strat_store_pins.proofs.staging.a_batch_is_taken_while_the_journal_has_room.Goals as goal

pub returns : goal.returns
unfolding climb
returns c = record {
  ok = record { sound = logged_stands.sound; accepted = refl; room = (let le : 6 ≤ 6 = omega arith in le) };
  room = λ takes. let le : 7 ≤ 6 = takes.room in omega (arith, le);
  none = λ takes. let no : false ≡ true = takes.accepted in absurd cc;
  kept = λ s batch takes. takes.sound;
}
