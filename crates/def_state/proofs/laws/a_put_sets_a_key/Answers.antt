use Rattle.def_state.proofs.SoundLemmas.{ordered}
use Rattle.std.proofs.Common.{ap, arith, length, length-append, []}
use Rattle.std.proofs.Common.{◌∷◌, List}
use Rattle.strat_base.specs.Change.{Put}
use Rattle.strat_base.specs.Entries.{Entry}
use Rattle.def_state.proofs.StepLemmas.{updates-appended}
use Rattle.def_state.proofs.StepMaps.{taken_sound, put_versions, put_map}
use Rattle.def_state.specs.State.{journal_updates}
use Rattle.std.proofs.Common.{Some}
use Rattle.def_state.proofs.laws.a_put_sets_a_key.Goals as goal

pub returns : goal.returns
returns c = record {
  kept = λ s v key value takes. taken_sound s (Put v key value) takes.sound takes.accepted takes.room;
  tree = λ s v key value takes. put_versions s (ordered s takes.sound) v key value takes.accepted takes.room;
  map = λ s v key value u takes. put_map s (ordered s takes.sound) v key value takes.accepted takes.room u;
  counts = λ s v key value. (
    omega (arith, ap (λ (x : List Entry). length x) (updates-appended s (Put v key value)), length-append (journal_updates s) (record { key = key; version = v; value = Some value } ∷ [])),
    omega (arith, length-append s.journal (Put v key value ∷ [])),
  );
}
