use Rattle.std.proofs.Common.{Option, None, Some, inl, inr, sym, subst, arith}
use Rattle.std.specs.Prelude.{Ok, Err}
use Rattle.def_bytes.specs.Damage.{Read}
use Rattle.strat_model.specs.Ended.{status_of}
use Rattle.def_recovery.specs.Head.{Head}
use Rattle.castle.specs.Outcomes.{EndsAsFound}
use Rattle.castle.proofs.HeadlineLemmas.{damaged_by, ended_by, found_flat, gave_device, gave_for, gives_up}
use Rattle.castle.proofs.headline.a_serving_run_ends_as_recovery_finds_its_disk.Goals as goal

pub returns-clause-none : goal.returns-clause-none
returns-clause-none g c = λ path status x y d e f ran exposed is. ran.2.refuses.none (ended_by status 2 ran.0 ran.1 is (λ nine. omega (arith, nine))) f exposed

pub returns-clause-damaged : goal.returns-clause-damaged
returns-clause-damaged g c = λ path status x y d e f ran exposed is.
    let damaged = damaged_by status ran.0 ran.1 is in (damaged.0, ran.2.refuses.damaged damaged.0 damaged.1 f exposed)

pub returns-clause-same : goal.returns-clause-same
returns-clause-same g c = λ path status x y d e ran is.
    let same = gave_for ran.0 x y (g.D.Viewed.view d) (g.D.Viewed.view e) ran.2.outcome (elim is [
      | inl two ↦ inl (ended_by status 2 ran.0 ran.1 two (λ nine. omega (arith, nine)))
      | inr eight ↦ inr (ended_by status 8 ran.0 ran.1 eight (λ nine. omega (arith, nine)))
    ]) in
    (same.0, same.1, same.2, same.3.each)

pub returns-clause-early : goal.returns-clause-early
returns-clause-early g c = λ path status x y d e f ran exposed none. gives_up x y (g.D.Viewed.view d) (g.D.Viewed.view e) f exposed ran.0 ran.2.outcome none

pub returns-clause-device : goal.returns-clause-device
returns-clause-device g c = λ path status x y d e f ran exposed is.
    gave_device ran.0 x y (g.D.Viewed.view d) (g.D.Viewed.view e) f exposed ran.2.outcome (ended_by status 5 ran.0 ran.1 is (λ nine. omega (arith, nine)))

pub returns-clause-complete : goal.returns-clause-complete
returns-clause-complete g c = λ path status x y d e f ran exposed source sink disk.
    let ends = ran.2.complete (record { source = source; sink = sink; disk = disk }) f exposed in (
      λ none. subst (EndsAsFound (Ok None)) (sym ran.1) (subst (λ (r : Read (Option Head)). EndsAsFound r (status_of ran.0)) none ends),
      λ block damaged. subst (EndsAsFound (Err block)) (sym ran.1) (subst (λ (r : Read (Option Head)). EndsAsFound r (status_of ran.0)) damaged ends),
      λ head found. found_flat status (subst (EndsAsFound (Ok (Some head))) (sym ran.1) (subst (λ (r : Read (Option Head)). EndsAsFound r (status_of ran.0)) found ends)),
    )
