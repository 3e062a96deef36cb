use Rattle.std.proofs.Common.{◌≤◌, ◌+◌, ◌-◌, ℕ, List, subst, arith}
use Rattle.strat_base.specs.declared.descriptors.Extent.{Extent}
use Rattle.strat_extent.specs.Blocks.{SpaceView, times_in, total_len, uses}
use Rattle.strat_extent.specs.Fields.{space_of}
use Rattle.strat_extent.proofs.AmongLemmas.{used_most}
use Rattle.strat_extent.proofs.space.Space.free.Goals as goal

pub returns-clause-len : goal.returns-clause-len
returns-clause-len c =
    subst (λ (s : SpaceView). (xs : List Extent) → ((b : ℕ) → uses s b ≤ times_in xs b) → 4294967295 ≤ s.first + total_len xs + (4294967295 - c.self.inside.first - c.self.inside.used)) c.self.view_is
    (λ xs among. let most = used_most (space_of c.self.inside) xs c.self.invariant.runs c.self.invariant.order among in
    let count = c.self.invariant.count in
    omega (arith, most, count))
