use Rattle.std.proofs.Common.{◌≡◌, ◌<◌, ◌≤◌, ℕ, length, Some}
use Rattle.std.specs.List.{slice_get}
use Rattle.strat_split.specs.Greedy.{sums_from, fate_of}
use Rattle.strat_split.specs.Survey.{told}
use Rattle.strat_split.proofs.gather.gather.Given as goal

abbrev pub invariant-loop-c : goal.invariant-loop-c
invariant-loop-c l = record {
  positive : 1 ≤ l.c;
  within : l.c ≤ length l.survey.own.now;
  sums_is : l.sums.items ≡ sums_from (told l.survey) l.c;
  fates_len : length l.fates.items ≡ length l.survey.own.now;
  fate_is : (v : ℕ) → l.c ≤ v → v < length l.survey.own.now → slice_get l.fates.items v ≡ Some (fate_of (told l.survey) v);
}

abbrev pub decreases-loop-c : goal.decreases-loop-c
decreases-loop-c l = l.c
