use Rattle.std.proofs.Common.{◌≡◌, ◌+◌, ◌-◌, ◌≤◌, List, [], ◌∷◌, refl, ap, arith}
use Rattle.strat_base.specs.declared.descriptors.Extent.{Extent}
use Rattle.strat_extent.specs.Blocks.{SpaceView, times_in, total_len, AreRuns}
use Rattle.strat_extent.specs.Fields.{space_of}
use Rattle.strat_extent.specs.Gap.{IsGap}
use Rattle.strat_extent.proofs.CountLemmas.{inside_join, inside_same}
use Rattle.strat_extent.proofs.RunLemmas.{runs_joined, runs_span, gap_all}
use Rattle.strat_extent.proofs.ChangeLemmas.{marked}
use Rattle.strat_extent.proofs.space.Space.mark_above.Goals as goal

pub put_run-requires-clause-room : goal.put_run-requires-clause-room
put_run-requires-clause-room c =
    omega (arith, c.in_ok-reserve_for.ensures.ok, runs_span c.self.inside.first c.self.inside.end c.self.inside.holes.items c.self.invariant.order c.self.invariant.runs)

-- the run is above the end
above : (c : goal.After-self-2-1) → c.self.inside.end ≤ c.args.run.start
above c = omega (arith, ap (λ (s : SpaceView). s.end) c.self.view_is, c.requires.found)

-- the holes with the one below the run
runs_after : (c : goal.After-self-2-1) → AreRuns c.self.inside.first c.put_run.new.holes.items (c.args.run.start + c.args.run.len)
runs_after c =
    let put : IsGap c.self.inside.first c.put_run.new.holes.items c.len-at.result c.self.inside.end c.self.inside.end (c.args.run.start + c.args.run.len)
    = c.put_run.ensures.ok c.self.inside.first c.self.inside.end (c.args.run.start + c.args.run.len) c.self.invariant.order (omega arith) (omega (arith, above c))
    (gap_all c.self.inside.first c.self.inside.end _ (c.args.run.start + c.args.run.len) c.reserve_for.new.holes.items c.len-at.result (omega arith)
    (rw c.in_ok-reserve_for.ensures.same.0 c.self.invariant.runs)) in
    runs_joined c.self.inside.first c.self.inside.end c.self.inside.end (c.args.run.start + c.args.run.len) c.put_run.new.holes.items c.len-at.result
    c.self.invariant.order (omega arith) (omega (arith, above c)) put.before put.after

total_after : (c : goal.After-self-2-1) → total_len c.put_run.new.holes.items ≡ c.args.run.start - c.self.inside.end + total_len c.self.inside.holes.items
total_after c = omega (arith, c.put_run.ensures.len, ap total_len c.in_ok-reserve_for.ensures.same.0)

pub invariant_of-self-2 : goal.invariant_of-self-2
invariant_of-self-2 c = record {
  order = omega (arith, above c);
  fits = omega arith;
  runs = runs_after c;
  count = omega (arith, total_after c, above c);
  room = omega (arith, c.in_ok-reserve_for.ensures.ok, c.put_run.ensures.room);
}

pub returns-clause-ok : goal.returns-clause-ok
returns-clause-ok c = (
  refl,
  rw (← c.self.view_is) (marked (space_of c.self.inside) _ (c.args.run ∷ []) refl c.self.invariant.runs (runs_after c) c.self.invariant.order (omega (arith, above c))
      (λ b. omega (
        arith,
        c.put_run.ensures.found b,
        ap (λ (z : List Extent). times_in z b) c.in_ok-reserve_for.ensures.same.0,
        inside_join c.self.inside.first c.self.inside.end (c.args.run.start + c.args.run.len) b c.self.invariant.order (omega (arith, above c)),
        inside_join c.self.inside.end c.args.run.start (c.args.run.start + c.args.run.len) b (above c) (omega arith),
        inside_same c.self.inside.end c.self.inside.end (c.self.inside.end + (c.args.run.start - c.self.inside.end)) c.args.run.start b refl (omega (arith, above c)),
      ))
      (omega (arith, total_after c, above c))),
)
