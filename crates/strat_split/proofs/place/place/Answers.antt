use Rattle.std.proofs.Common.{◌≡◌, ℕ, length, subst, arith}
use Rattle.strat_split.specs.Survey.{told}
use Rattle.strat_split.specs.Placing.{IsSoFar}
use Rattle.strat_split.proofs.place.place.Goals as goal

pub returns-clause-ok : goal.returns-clause-ok
returns-clause-ok c = λ lawful.
    let all : c.loop-c.c ≡ length c.args.survey.now.own.now = omega (arith, c.loop-c.auto.c-end) in
    subst (λ (n : ℕ). IsSoFar (told c.args.survey.now) n c.loop-c.draft.labels.items c.loop-c.draft.joins.items c.loop-c.draft.parts.items) all (c.loop-c.invariant.so_far lawful)
