use Rattle.std.proofs.Common.{Bool, refl, sym, ◌∙◌, subst, arith}
use Rattle.strat_base.proofs.ResultFacts.{err_of}
use Rattle.def_crash.proofs.MomentLemmas.{reads_trans}
use Rattle.strat_promote.specs.LeadRuns.{Turns}
use Rattle.strat_promote.proofs.LeadLemmas.{front_contains, front_trans}
use Rattle.strat_promote.proofs.LeadRunLemmas.{reach_begins, reach_goes_on, settled_here, settled_out}
use Rattle.strat_check.specs.Below.{versions_below}
use Rattle.strat_check.proofs.marked_run.reach_below.Goals as goal

pub loop-at-init : goal.loop-at-init
loop-at-init g c =
    (reach_begins _ _ c.args.blocks.now c.args.at.now c.first_below.result _ c.first_below.ensures.len c.first_below.ensures.ok c.first_below.ensures.found, refl)

pub returns-in_err-next-clause-damaged : goal.returns-in_err-next-clause-damaged
returns-in_err-next-clause-damaged g c = λ b torn.
    let reach = c.loop-at.invariant.0 in
    let bad = c.in_err-next.ensures.damaged b (err_of c.from_residual.result _ _ c.from_residual.ensures.1 torn) in (
      front_contains _ _ _ _ b reach.reads bad.0,
      λ f exposed. sym (reach.passes.misfit f exposed) ∙ bad.1 f (reach.same.same ∙ exposed),
    )

pub returns-in_err-next-clause-same : goal.returns-in_err-next-clause-same
returns-in_err-next-clause-same g c = reads_trans c.loop-at.invariant.0.same c.next.ensures.same

pub returns-in_err-next-clause-reads : goal.returns-in_err-next-clause-reads
returns-in_err-next-clause-reads g c = front_trans _ _ _ _ _ _ c.loop-at.invariant.0.reads c.next.ensures.reads

pub returns-then-not-branch-clause-same : goal.returns-then-not-branch-clause-same
returns-then-not-branch-clause-same g c = reads_trans c.loop-at.invariant.0.same c.next.ensures.same

pub loop-at-preserved : goal.loop-at-preserved
loop-at-preserved g c =
    let next = c.in_ok-next.ensures in
    let first = c.first_below-in-loop-at.ensures in (
      reach_goes_on _ (g.D.Disk.view c.loop-at.disk) _ _ _ c.loop-at.blocks c.next.new.self _ c.loop-at.at _ _ _ _ c.loop-at.invariant.0 (omega (arith, c.count.ensures.ok))
          (subst (λ (t : Bool). Turns (g.D.Disk.view c.loop-at.disk) c.loop-at.blocks c.next.new.self t) c.if-not-branch.false next.ok)
          next.same next.reads first.len first.ok first.found,
      next.cause.ok ∙ c.loop-at.invariant.1,
    )

pub returns-clause-state : goal.returns-clause-state
returns-clause-state g c =
    settled_here (versions_below c.args.versions) c.loop-at.blocks c.loop-at.at c.count.ensures.kept
    (c.loop-at.invariant.0.begins (let within = c.loop-at.invariant.0.passes.within in omega (arith, within, c.count.ensures.ok)))

pub returns-in_err-next-clause-state : goal.returns-in_err-next-clause-state
returns-in_err-next-clause-state g c = settled_out (versions_below c.args.versions) c.loop-at.at c.next.new.self c.in_err-next.ensures.err
