use Rattle.std.proofs.Common.{List, refl, subst, arith}
use Rattle.strat_base.proofs.ResultFacts.{err_of}
use Rattle.strat_array.specs.Progress.{ArrayProgress}
use Rattle.strat_promote.specs.Closing.{IsDescribed}
use Rattle.strat_promote.specs.InputFields.{input_seen}
use Rattle.strat_split.specs.PlanSeen.{plan_seen}
use Rattle.strat_promote.proofs.FilterLemmas.{sealed_filters}
use Rattle.strat_promote.proofs.MadeLemmas.{level_made}
use Rattle.strat_promote.proofs.ObstacleLemmas.{gives_kept, short_fit}
use Rattle.strat_promote.proofs.OwnedLemmas.{owned}
use Rattle.strat_promote.proofs.step.finish_writing.Goals as goal

pub returns-clause-kept : goal.returns-clause-kept
returns-clause-kept g c =
    let described = subst (λ (ws : List ArrayProgress). IsDescribed (plan_seen c.args.writing.now.filling.plan) c.args.task.now.target ws c.in_ok-made.made) c.deref.ensures.value c.in_ok-made.ensures.ok in
    (refl, owned _ _ _ _ described)

pub returns-clause-ok : goal.returns-clause-ok
returns-clause-ok g c = λ f h inputs job told tells ready is written.
    let described = subst (λ (ws : List ArrayProgress). IsDescribed (plan_seen c.args.writing.now.filling.plan) c.args.task.now.target ws c.in_ok-made.made) c.deref.ensures.value c.in_ok-made.ensures.ok in
    level_made input_seen f h _ _ job c.args.task.now.first c.args.writing.now _ written c.in_ok-seal_all.ensures.ok told tells c.in_ok-seal_all.ensures.len c.requires.kept.writers
    c.args.task.now inputs c.in_ok-made.made ready is c.requires.kept described

pub returns-clause-filters : goal.returns-clause-filters
returns-clause-filters g c = λ f h job told tells written.
    let described = subst (λ (ws : List ArrayProgress). IsDescribed (plan_seen c.args.writing.now.filling.plan) c.args.task.now.target ws c.in_ok-made.made) c.deref.ensures.value c.in_ok-made.ensures.ok in
    sealed_filters input_seen f h _ _ job c.args.task.now.first c.args.writing.now _ written c.in_ok-seal_all.ensures.ok told tells c.in_ok-seal_all.ensures.len
    (plan_seen c.args.writing.now.filling.plan) c.args.task.now.target c.in_ok-made.made described

pub returns-in_err-seal_all-clause-fits : goal.returns-in_err-seal_all-clause-fits
returns-in_err-seal_all-clause-fits g c = λ unfit.
    let none = c.in_err-seal_all.ensures.fits (err_of c.from_residual.result _ _ c.from_residual.ensures.1 unfit) in
    let kept = c.requires.kept in
    omega (arith, none, kept.writers, kept.parts, kept.small)

pub returns-in_err-seal_all-clause-cause : goal.returns-in_err-seal_all-clause-cause
returns-in_err-seal_all-clause-cause g c = gives_kept c.from_residual.result _ _ _ c.from_residual.ensures.1 c.in_err-seal_all.ensures.cause

pub returns-in_err-made-clause-fits : goal.returns-in_err-made-clause-fits
returns-in_err-made-clause-fits g c = λ unfit. absurd (short_fit c.from_residual-in_err-made.result c.from_residual-in_err-made.ensures.1 unfit)

pub returns-in_err-made-clause-cause : goal.returns-in_err-made-clause-cause
returns-in_err-made-clause-cause g c = gives_kept c.from_residual-in_err-made.result _ _ _ c.from_residual-in_err-made.ensures.1 c.in_ok-seal_all.ensures.cause
