use Rattle.std.proofs.Common.{◌≡◌, [], ◌∷◌, true, false, subst, sym, arith}
use Rattle.strat_extent.specs.Blocks.{SpaceView}
use Rattle.strat_extent.specs.Change.{CanMark}
use Rattle.strat_extent.specs.Fields.{space_of}
use Rattle.strat_extent.proofs.RunLemmas.{runs_weaker}
use Rattle.strat_extent.proofs.ChangeLemmas.{cannot_mark, low_not_free, high_not_free}
use Rattle.strat_extent.proofs.space.Space.mark_run.Goals as goal

pub hole_of-requires-clause-kept : goal.hole_of-requires-clause-kept
hole_of-requires-clause-kept c =
    runs_weaker c.self.inside.first 0 c.self.inside.end 4294967296 c.self.inside.holes.items (omega arith) (omega arith) c.self.invariant.runs

pub returns-then-run-self-clause-cause : goal.returns-then-run-self-clause-cause
returns-then-run-self-clause-cause c = (
  λ (e : false ≡ true). absurd (cc),
  λ can. absurd (cannot_mark (space_of c.self.inside) c.args.run c.args.run.start (omega arith) (omega arith)
      (low_not_free (space_of c.self.inside) c.args.run.start (omega arith)) (subst (λ (s : SpaceView). CanMark s (c.args.run ∷ [])) (sym c.self.view_is) can)),
)

pub returns-in_default-clause-cause : goal.returns-in_default-clause-cause
returns-in_default-clause-cause c = (
  λ (e : false ≡ true). absurd (cc),
  λ can. absurd (cannot_mark (space_of c.self.inside) c.args.run 4294967295 (omega arith) (omega (arith, c.in_default.ensures))
      (high_not_free (space_of c.self.inside) 4294967295 (omega arith)) (subst (λ (s : SpaceView). CanMark s (c.args.run ∷ [])) (sym c.self.view_is) can)),
)
