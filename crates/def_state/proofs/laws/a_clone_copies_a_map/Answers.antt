use Rattle.def_state.proofs.SoundLemmas.{ordered}
use Rattle.std.proofs.Common.{ap, arith, length, length-append, [], ◌∷◌, List}
use Rattle.strat_base.specs.Change.{Clone}
use Rattle.strat_base.specs.Entries.{Entry}
use Rattle.def_state.specs.State.{journal_updates}
use Rattle.def_state.proofs.StepLemmas.{updates-appended}
use Rattle.def_state.proofs.StepMaps.{taken_sound, clone_versions, clone_map, clone_map_new}
use Rattle.def_state.proofs.laws.a_clone_copies_a_map.Goals as goal

pub returns : goal.returns
returns c = record {
  kept = λ s p takes. taken_sound s (Clone p) takes.sound takes.accepted takes.room;
  tree = λ s p takes. clone_versions s (ordered s takes.sound) p takes.accepted takes.room;
  same = λ s p u takes lt. clone_map s (ordered s takes.sound) p takes.accepted takes.room u lt;
  child = λ s p takes. clone_map_new s (ordered s takes.sound) p takes.accepted takes.room;
  counts = λ s p. (
    omega (arith, ap (λ (x : List Entry). length x) (updates-appended s (Clone p)), length-append (journal_updates s) []),
    omega (arith, length-append s.journal (Clone p ∷ [])),
  );
}
