use Rattle.std.proofs.Common.{◌≡◌, refl, arith}
use Rattle.strat_extent.specs.Fields.{space_of}
use Rattle.strat_extent.proofs.ChangeLemmas.{used_before_hole, used_after_hole}
use Rattle.strat_extent.proofs.space.Space.lowest.Goals as goal

pub returns-in-Some-clause-found : goal.returns-in-Some-clause-found
returns-in-Some-clause-found c =
    rw (← c.self.view_is) (λ b le lt. used_before_hole (space_of c.self.inside) c.in-Some.hole.now b c.self.invariant.runs
    (omega (arith, c.in-Some.ensures.variant.0 refl)) c.in-Some.ensures.lookup le lt)

pub returns-in-Some-clause-end : goal.returns-in-Some-clause-end
returns-in-Some-clause-end c lt =
    let len : c.min.result ≡ c.in-Some.hole.now.len = omega arith in
    rw (← c.self.view_is, len) (used_after_hole (space_of c.self.inside) c.in-Some.hole.now c.self.invariant.runs
    (omega (arith, c.in-Some.ensures.variant.0 refl)) c.in-Some.ensures.lookup)
