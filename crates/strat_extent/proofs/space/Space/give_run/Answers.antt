use Rattle.std.proofs.Common.{◌+◌, ◌≤◌, [], ◌∷◌, subst, sym, refl, arith}
use Rattle.strat_extent.specs.Blocks.{SpaceView, AreRuns}
use Rattle.strat_extent.specs.Change.{CanGive}
use Rattle.strat_extent.specs.Fields.{space_of}
use Rattle.strat_extent.specs.Gap.{IsGap}
use Rattle.strat_extent.proofs.CountLemmas.{inside_join}
use Rattle.strat_extent.proofs.RunLemmas.{runs_span, gap_weaker, gap_span}
use Rattle.strat_extent.proofs.ChangeLemmas.{marked, given_gap}
use Rattle.strat_extent.proofs.space.Space.give_run.Goals as goal

pub join_run-place-requires-clause-fits : goal.join_run-place-requires-clause-fits
join_run-place-requires-clause-fits c =
    let can : CanGive (space_of c.self.inside) (c.args.run ∷ []) = subst (λ (s : SpaceView). CanGive s (c.args.run ∷ [])) (sym c.self.view_is) c.requires in
    let given : IsGap c.self.inside.first c.self.inside.holes.items c.place_of-at.result (c.args.run.start + 1) (c.args.run.start + c.args.run.len) c.self.inside.end
    × (c.self.inside.first ≤ c.args.run.start) × (c.args.run.start + c.args.run.len ≤ c.self.inside.end)
    = given_gap (space_of c.self.inside) c.args.run c.place_of-at.result c.self.invariant.runs can (omega arith) (omega arith)
    (c.place_of-at.ensures.ok c.self.inside.first c.self.inside.end c.self.invariant.runs) in
    (omega arith, omega (arith, given.2), omega arith)

pub join_run-place-requires-clause-kept : goal.join_run-place-requires-clause-kept
join_run-place-requires-clause-kept c =
    let can : CanGive (space_of c.self.inside) (c.args.run ∷ []) = subst (λ (s : SpaceView). CanGive s (c.args.run ∷ [])) (sym c.self.view_is) c.requires in
    let given : IsGap c.self.inside.first c.self.inside.holes.items c.place_of-at.result (c.args.run.start + 1) (c.args.run.start + c.args.run.len) c.self.inside.end
    × (c.self.inside.first ≤ c.args.run.start) × (c.args.run.start + c.args.run.len ≤ c.self.inside.end)
    = given_gap (space_of c.self.inside) c.args.run c.place_of-at.result c.self.invariant.runs can (omega arith) (omega arith)
    (c.place_of-at.ensures.ok c.self.inside.first c.self.inside.end c.self.invariant.runs) in
    gap_weaker c.self.inside.first 0 (c.args.run.start + 1) (c.args.run.start + 1) (c.args.run.start + c.args.run.len) (c.args.run.start + c.args.run.len)
    c.self.inside.end 4294967296 c.self.inside.holes.items c.place_of-at.result (omega arith) (omega arith) (omega arith) (omega arith) given.0

pub open_run-self-inside-requires-clause-fits : goal.open_run-self-inside-requires-clause-fits
open_run-self-inside-requires-clause-fits c =
    let can : CanGive (space_of c.self.inside) (c.args.run ∷ []) = subst (λ (s : SpaceView). CanGive s (c.args.run ∷ [])) (sym c.self.view_is) c.requires in
    let given : IsGap c.self.inside.first c.self.inside.holes.items c.place_of-at.result (c.args.run.start + 1) (c.args.run.start + c.args.run.len) c.self.inside.end
    × (c.self.inside.first ≤ c.args.run.start) × (c.args.run.start + c.args.run.len ≤ c.self.inside.end)
    = given_gap (space_of c.self.inside) c.args.run c.place_of-at.result c.self.invariant.runs can (omega arith) (omega arith)
    (c.place_of-at.ensures.ok c.self.inside.first c.self.inside.end c.self.invariant.runs) in
    let joined : IsGap c.self.inside.first c.join_run-place.new.holes.items c.join_run-place.result.0 c.join_run-place.result.1.start
    (c.join_run-place.result.1.start + c.join_run-place.result.1.len + 1) c.self.inside.end
    × (c.self.inside.first ≤ c.join_run-place.result.1.start) × (c.join_run-place.result.1.start + c.join_run-place.result.1.len ≤ c.self.inside.end)
    = c.join_run-place.ensures.ok c.self.inside.first c.self.inside.end given.1 given.2 given.0 in
    (omega arith, omega arith, joined.2)

pub open_run-self-inside-requires-clause-room : goal.open_run-self-inside-requires-clause-room
open_run-self-inside-requires-clause-room c lt =
    let can : CanGive (space_of c.self.inside) (c.args.run ∷ []) = subst (λ (s : SpaceView). CanGive s (c.args.run ∷ [])) (sym c.self.view_is) c.requires in
    let given : IsGap c.self.inside.first c.self.inside.holes.items c.place_of-at.result (c.args.run.start + 1) (c.args.run.start + c.args.run.len) c.self.inside.end
    × (c.self.inside.first ≤ c.args.run.start) × (c.args.run.start + c.args.run.len ≤ c.self.inside.end)
    = given_gap (space_of c.self.inside) c.args.run c.place_of-at.result c.self.invariant.runs can (omega arith) (omega arith)
    (c.place_of-at.ensures.ok c.self.inside.first c.self.inside.end c.self.invariant.runs) in
    let joined : IsGap c.self.inside.first c.join_run-place.new.holes.items c.join_run-place.result.0 c.join_run-place.result.1.start
    (c.join_run-place.result.1.start + c.join_run-place.result.1.len + 1) c.self.inside.end
    × (c.self.inside.first ≤ c.join_run-place.result.1.start) × (c.join_run-place.result.1.start + c.join_run-place.result.1.len ≤ c.self.inside.end)
    = c.join_run-place.ensures.ok c.self.inside.first c.self.inside.end given.1 given.2 given.0 in
    omega (
      arith,
      gap_span c.self.inside.first c.join_run-place.result.1.start (c.join_run-place.result.1.start + c.join_run-place.result.1.len + 1) c.self.inside.end
          c.join_run-place.new.holes.items c.join_run-place.result.0 joined.1 (omega (arith, lt)) joined.0,
    )

-- the holes and the end after the call
opened : (c : goal.After-self-2-1) → AreRuns c.self.inside.first c.open_run-self-inside.new.holes.items c.open_run-self-inside.result
    × (c.self.inside.first ≤ c.open_run-self-inside.result)
opened c =
    let can : CanGive (space_of c.self.inside) (c.args.run ∷ []) = subst (λ (s : SpaceView). CanGive s (c.args.run ∷ [])) (sym c.self.view_is) c.requires in
    let given : IsGap c.self.inside.first c.self.inside.holes.items c.place_of-at.result (c.args.run.start + 1) (c.args.run.start + c.args.run.len) c.self.inside.end
    × (c.self.inside.first ≤ c.args.run.start) × (c.args.run.start + c.args.run.len ≤ c.self.inside.end)
    = given_gap (space_of c.self.inside) c.args.run c.place_of-at.result c.self.invariant.runs can (omega arith) (omega arith)
    (c.place_of-at.ensures.ok c.self.inside.first c.self.inside.end c.self.invariant.runs) in
    let joined : IsGap c.self.inside.first c.join_run-place.new.holes.items c.join_run-place.result.0 c.join_run-place.result.1.start
    (c.join_run-place.result.1.start + c.join_run-place.result.1.len + 1) c.self.inside.end
    × (c.self.inside.first ≤ c.join_run-place.result.1.start) × (c.join_run-place.result.1.start + c.join_run-place.result.1.len ≤ c.self.inside.end)
    = c.join_run-place.ensures.ok c.self.inside.first c.self.inside.end given.1 given.2 given.0 in
    c.open_run-self-inside.ensures.ok c.self.inside.first joined.1 joined.0

pub overflow_sub-self : goal.overflow_sub-self
overflow_sub-self c =
    let can : CanGive (space_of c.self.inside) (c.args.run ∷ []) = subst (λ (s : SpaceView). CanGive s (c.args.run ∷ [])) (sym c.self.view_is) c.requires in
    let given : IsGap c.self.inside.first c.self.inside.holes.items c.place_of-at.result (c.args.run.start + 1) (c.args.run.start + c.args.run.len) c.self.inside.end
    × (c.self.inside.first ≤ c.args.run.start) × (c.args.run.start + c.args.run.len ≤ c.self.inside.end)
    = given_gap (space_of c.self.inside) c.args.run c.place_of-at.result c.self.invariant.runs can (omega arith) (omega arith)
    (c.place_of-at.ensures.ok c.self.inside.first c.self.inside.end c.self.invariant.runs) in
    let joined : IsGap c.self.inside.first c.join_run-place.new.holes.items c.join_run-place.result.0 c.join_run-place.result.1.start
    (c.join_run-place.result.1.start + c.join_run-place.result.1.len + 1) c.self.inside.end
    × (c.self.inside.first ≤ c.join_run-place.result.1.start) × (c.join_run-place.result.1.start + c.join_run-place.result.1.len ≤ c.self.inside.end)
    = c.join_run-place.ensures.ok c.self.inside.first c.self.inside.end given.1 given.2 given.0 in
    let opened2 : AreRuns c.self.inside.first c.open_run-self-inside.new.holes.items c.open_run-self-inside.result
    × (c.self.inside.first ≤ c.open_run-self-inside.result)
    = c.open_run-self-inside.ensures.ok c.self.inside.first joined.1 joined.0 in
    omega (arith, runs_span c.self.inside.first c.open_run-self-inside.result c.open_run-self-inside.new.holes.items opened2.1 opened2.0)

pub invariant_of-self : goal.invariant_of-self
invariant_of-self c = record {
  order = (opened c).1;
  fits = omega arith;
  runs = (opened c).0;
  count = omega (arith, runs_span c.self.inside.first c.open_run-self-inside.result c.open_run-self-inside.new.holes.items (opened c).1 (opened c).0);
  room = omega arith;
}

pub returns : goal.returns
returns c = record {
  ok = rw (← c.self.view_is) (marked _ (space_of c.self.inside) (c.args.run ∷ []) refl (opened c).0 c.self.invariant.runs (opened c).1 c.self.invariant.order
      (λ b. omega (
        arith,
        c.open_run-self-inside.ensures.found b,
        c.join_run-place.ensures.found b,
        inside_join c.self.inside.first c.open_run-self-inside.result c.self.inside.end b (opened c).1 (omega arith),
      ))
      (omega arith));
}
