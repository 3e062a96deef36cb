use Rattle.def_state.proofs.SoundLemmas.{ordered}
use Rattle.std.proofs.Common.{ap, arith, length, length-append, [], ◌∷◌, List}
use Rattle.strat_base.specs.Change.{DropVersion}
use Rattle.strat_base.specs.Entries.{Entry}
use Rattle.def_state.specs.State.{journal_updates}
use Rattle.def_state.proofs.StepLemmas.{updates-appended}
use Rattle.def_state.proofs.StepMaps.{taken_sound, drop_versions, drop_map}
use Rattle.def_state.proofs.laws.a_drop_empties_a_map.Goals as goal

pub returns : goal.returns
returns c = record {
  kept = λ s v takes. taken_sound s (DropVersion v) takes.sound takes.accepted takes.room;
  tree = λ s v. drop_versions s v;
  map = λ s v u sound may. drop_map s v (ordered s sound) may u;
  counts = λ s v. (
    omega (arith, ap (λ (x : List Entry). length x) (updates-appended s (DropVersion v)), length-append (journal_updates s) []),
    omega (arith, length-append s.journal (DropVersion v ∷ [])),
  );
}
