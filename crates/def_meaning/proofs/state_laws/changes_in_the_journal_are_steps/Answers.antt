use Rattle.def_meaning.proofs.StateTableLemmas.{accepts_same, stays_sound, steps_to, answers_as, steps_bare, answers_bare}
use Rattle.def_meaning.proofs.state_laws.changes_in_the_journal_are_steps.Goals as goal

pub returns : goal.returns
returns c = record {
  accepted = accepts_same;
  kept = stays_sound;
  table = steps_to;
  answer = answers_as;
  bare = steps_bare;
  same = answers_bare;
}
