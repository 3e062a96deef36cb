use Rattle.std.proofs.Common.{length}
use Rattle.strat_split.specs.Survey.{told, AreCounted}
use Rattle.strat_split.specs.Placing.{IsDrafted, IsSoFar}
use Rattle.strat_split.proofs.place.place.Given as goal

abbrev pub invariant-loop-c : goal.invariant-loop-c
invariant-loop-c l = record {
  drafted : IsDrafted (length l.survey.own.now) l.c l.draft.labels.items l.draft.joins.items l.draft.parts.items;
  so_far : AreCounted (told l.survey) → IsSoFar (told l.survey) l.c l.draft.labels.items l.draft.joins.items l.draft.parts.items;
}
