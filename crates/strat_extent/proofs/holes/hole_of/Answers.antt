use Rattle.std.proofs.Common.{◌≡◌, ◌+◌, ◌-◌, ◌<◌, ◌≤◌, suc, get_or, ap, arith}
use Rattle.strat_base.specs.declared.descriptors.Extent.{Extent}
use Rattle.strat_extent.proofs.RunLemmas.{run_at, used_before_all, used_after_last}
use Rattle.strat_extent.proofs.holes.hole_of.Goals as goal

pub returns-then-at-eq0-clause-none : goal.returns-then-at-eq0-clause-none
returns-then-at-eq0-clause-none c low high le lt a =
    used_before_all low high c.args.holes.now.items c.args.run (omega arith) le lt a
    (rw c.if-at-eq0.true at (c.place_of-at.ensures.ok low high a))

pub overflow_add-hole : goal.overflow_add-hole
overflow_add-hole c =
    let at : (0 ≤ (get_or c.args.holes.now.items (c.place_of-at.result - 1) c.index-hole.result.now).start) × (0 < (get_or c.args.holes.now.items (c.place_of-at.result - 1) c.index-hole.result.now).len)
    × ((get_or c.args.holes.now.items (c.place_of-at.result - 1) c.index-hole.result.now).start + (get_or c.args.holes.now.items (c.place_of-at.result - 1) c.index-hole.result.now).len < 4294967296)
    = run_at 0 4294967296 c.args.holes.now.items (c.place_of-at.result - 1) c.index-hole.result.now c.requires.kept (omega arith) in
    omega (arith, at.2, ap (λ (z : Extent). z.start + z.len) c.index-hole.ensures)

pub returns-else-run-hole-clause-none : goal.returns-else-run-hole-clause-none
returns-else-run-hole-clause-none c low high le lt a =
    let at : c.place_of-at.result ≡ suc (c.place_of-at.result - 1) = omega arith in
    used_after_last low high c.args.holes.now.items (c.place_of-at.result - 1) c.args.run c.index-hole.result.now (omega arith) (omega arith) le lt a
    (rw at at (c.place_of-at.ensures.ok low high a)) c.index-hole.ensures (omega arith)
