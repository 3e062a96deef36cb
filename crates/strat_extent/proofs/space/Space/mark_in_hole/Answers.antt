use Rattle.std.proofs.Common.{List, [], ◌∷◌, subst, sym, refl, ap, arith}
use Rattle.strat_base.specs.declared.descriptors.Extent.{Extent}
use Rattle.strat_extent.specs.Blocks.{SpaceView, times_in, total_len}
use Rattle.strat_extent.specs.Fields.{space_of}
use Rattle.strat_extent.specs.Gap.{IsInHole}
use Rattle.strat_extent.proofs.RunLemmas.{runs_span, runs_weaker, total_at}
use Rattle.strat_extent.proofs.ChangeLemmas.{marked}
use Rattle.strat_extent.proofs.space.Space.mark_in_hole.Goals as goal

pub overflow_add-used : goal.overflow_add-used
overflow_add-used c =
    let in_hole : IsInHole c.self.inside.holes.items c.args.i c.args.run
    = subst (λ (s : SpaceView). IsInHole s.holes c.args.i c.args.run) (sym c.self.view_is) c.requires.found in
    omega (arith, in_hole.start c.args.run, in_hole.end c.args.run, total_at c.self.inside.holes.items c.args.i c.args.run in_hole.within)

pub cut_hole-requires-clause-kept : goal.cut_hole-requires-clause-kept
cut_hole-requires-clause-kept c =
    rw c.in_ok-reserve_for.ensures.same.0
    (runs_weaker c.self.inside.first 0 c.self.inside.end 4294967296 c.self.inside.holes.items (omega arith) (omega arith) c.self.invariant.runs)

pub cut_hole-requires-clause-room : goal.cut_hole-requires-clause-room
cut_hole-requires-clause-room c =
    omega (arith, c.in_ok-reserve_for.ensures.ok, runs_span c.self.inside.first c.self.inside.end c.self.inside.holes.items c.self.invariant.order c.self.invariant.runs)

pub returns-clause-ok : goal.returns-clause-ok
returns-clause-ok c = (
  refl,
  rw (← c.self.view_is) (marked (space_of c.self.inside) _ (c.args.run ∷ []) refl c.self.invariant.runs
      (c.cut_hole.ensures.ok c.self.inside.first c.self.inside.end (rw c.in_ok-reserve_for.ensures.same.0 c.self.invariant.runs)) c.self.invariant.order c.self.invariant.order
      (λ b. omega (arith, c.cut_hole.ensures.found b, ap (λ (z : List Extent). times_in z b) c.in_ok-reserve_for.ensures.same.0))
      (omega (arith, c.cut_hole.ensures.len, ap total_len c.in_ok-reserve_for.ensures.same.0))),
)
