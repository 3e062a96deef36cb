use Rattle.std.proofs.Common.{◌≡◌, ◌-◌, ◌<◌, true, subst, arith}
use Rattle.strat_extent.specs.Blocks.{SpaceView, AreRuns, is_used}
use Rattle.strat_extent.specs.Fields.{space_of}
use Rattle.strat_extent.proofs.RunLemmas.{none_above}
use Rattle.strat_extent.proofs.ChangeLemmas.{is_used_of}
use Rattle.strat_extent.proofs.space.Space.end.Goals as goal

pub returns-clause-found : goal.returns-clause-found
returns-clause-found c =
    subst (λ (s : SpaceView). s.first < c.self.inside.end → is_used s (c.self.inside.end - 1) ≡ true) c.self.view_is
    (λ lt. is_used_of (space_of c.self.inside) (c.self.inside.end - 1) (omega (arith, lt)) (omega (arith, lt))
    (none_above c.self.inside.first c.self.inside.end c.self.inside.holes.items (c.self.inside.end - 1) c.self.invariant.runs (omega arith)))

pub returns-clause-kept : goal.returns-clause-kept
returns-clause-kept c =
    subst (λ (s : SpaceView). AreRuns s.first s.holes s.end) c.self.view_is c.self.invariant.runs
