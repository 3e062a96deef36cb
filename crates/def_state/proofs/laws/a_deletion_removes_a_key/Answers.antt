use Rattle.def_state.proofs.SoundLemmas.{ordered}
use Rattle.std.proofs.Common.{ap, arith, length, length-append, [], ◌∷◌, List, None}
use Rattle.strat_base.specs.Change.{Delete}
use Rattle.strat_base.specs.Entries.{Entry}
use Rattle.def_state.specs.State.{journal_updates}
use Rattle.def_state.proofs.StepLemmas.{updates-appended}
use Rattle.def_state.proofs.StepMaps.{taken_sound, delete_versions, delete_map}
use Rattle.def_state.proofs.laws.a_deletion_removes_a_key.Goals as goal

pub returns : goal.returns
returns c = record {
  kept = λ s v key takes. taken_sound s (Delete v key) takes.sound takes.accepted takes.room;
  tree = λ s v key takes. delete_versions s (ordered s takes.sound) v key takes.accepted takes.room;
  map = λ s v key u takes. delete_map s (ordered s takes.sound) v key takes.accepted takes.room u;
  counts = λ s v key. (
    omega (arith, ap (λ (x : List Entry). length x) (updates-appended s (Delete v key)), length-append (journal_updates s) (record { key = key; version = v; value = None } ∷ [])),
    omega (arith, length-append s.journal (Delete v key ∷ [])),
  );
}
