use Rattle.std.proofs.Common.{◌≡◌, [], ◌∷◌, List, get_or, true, false, sym, subst, ◌∙◌, arith}
use Rattle.std.proofs.lemmas.List.{get_or_default}
use Rattle.strat_base.specs.declared.descriptors.Extent.{Extent}
use Rattle.strat_extent.specs.Change.{IsMarked, CanMark}
use Rattle.strat_extent.proofs.ChangeLemmas.{can_mark_next, can_mark_more, marked_more}
use Rattle.strat_extent.proofs.space.Space.mark.Goals as goal

pub loop-i-preserved : goal.loop-i-preserved
loop-i-preserved c =
    let run : Extent = get_or c.as_slice-runs.result.now c.loop-i.i (record { start = 0; len = 0 }) in
    let same : run ≡ get_or c.as_slice-runs.result.now c.loop-i.i run = get_or_default c.as_slice-runs.result.now c.loop-i.i _ _ (omega arith) in
    let marked : IsMarked c.loop-i.self (run ∷ []) c.mark_run.new.self = rw c.if-not-marked.false at c.in-Ok.ensures.ok in
    record {
      marked = marked_more c.args.self.now c.loop-i.self c.mark_run.new.self c.as_slice-runs.result.now c.loop-i.i run (omega arith) same
          c.loop-i.invariant.marked marked;
      can = can_mark_more c.args.self.now c.loop-i.self c.as_slice-runs.result.now c.loop-i.i run (omega arith) same
          c.loop-i.invariant.can c.loop-i.invariant.marked (c.in-Ok.ensures.cause.0 c.if-not-marked.false);
    }

pub returns-then-not-marked-clause-cause : goal.returns-then-not-marked-clause-cause
returns-then-not-marked-clause-cause c = (
  λ (e : false ≡ true). absurd (cc),
  λ can. sym c.if-not-marked.true ∙ c.in-Ok.ensures.cause.1
      (can_mark_next c.args.self.now c.loop-i.self c.as_slice-runs.result.now c.loop-i.i _ (omega arith)
      (get_or_default c.as_slice-runs.result.now c.loop-i.i _ _ (omega arith))
      (subst (λ (xs : List Extent). CanMark c.args.self.now xs) (sym c.as_slice-runs.ensures.ok) can) c.loop-i.invariant.marked),
)
