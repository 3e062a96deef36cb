use Rattle.std.proofs.Common.{◌≡◌, ◌≤◌, ℕ, [], ◌∷◌, inl, Err, ap, ◌∙◌, subst}
use Rattle.std.proofs.lemmas.Result.{err_from_is_err_and}
use Rattle.def_crash.specs.Faults.{Rose}
use Rattle.def_crash.specs.Image.{Image}
use Rattle.def_crash.specs.Moments.{Exposes, OnlyReads}
use Rattle.def_crash.proofs.MomentLemmas.{reads_trans}
use Rattle.strat_memory.specs.RecoveredFields.{empty_cache}
use Rattle.strat_model.specs.Table.{Table}
use Rattle.def_publish.specs.Standing.{ShowsTable}
use Rattle.strat_open.specs.Following.{FollowsFrom}
use Rattle.strat_open.specs.declared.attach_fault.AttachFault.{AttachFault}
use Rattle.strat_open.proofs.OpenLemmas.{failed_cause, from_opening, looks_kept, opened_as, leaves_follows}
use Rattle.strat_open.proofs.SeveralLemmas.{followed_whole, kept_whole, left_one}
use Rattle.strat_open.proofs.recovery.open.Given.{Over}
use Rattle.strat_open.proofs.recovery.open.Goals as goal
use Rattle.strat_open.proofs.recovery.open.Goals.{After-recover_store, After-shut_other}

-- a sync leaves the disk as it was read
synced : (g : Over) (c : After-recover_store g) → OnlyReads (g.D.Disk.view c.args.disk.now) (g.D.Disk.view c.sync_first.new.disk)
synced g c = record { same = c.sync_first.ensures.same; images = c.sync_first.ensures.images; time = c.sync_first.ensures.time }

-- until the store is recovered the disk was only read
looks : (g : Over) (c : After-recover_store g) → OnlyReads (g.D.Disk.view c.args.disk.now) (g.D.Disk.view c.recover_store.new.disk)
looks g c = reads_trans (synced g c) c.recover_store.ensures.same

-- whatever became of the last step, the disk follows the table of its content
follows : (g : Over) (c : After-shut_other g) (f : Image) (t : Table) → Exposes (g.D.Disk.view c.args.disk.now) f → ShowsTable f t
    → FollowsFrom (g.D.Disk.view c.args.disk.now) (g.D.Disk.view c.shut_other.new.disk) f (t ∷ []) 0
follows g c f t exposed shows =
    from_opening _ (g.D.Disk.view c.sync_first.new.disk) (g.D.Disk.view c.recover_store.new.disk) _ c.in_ok-recovered.recovered
    (record { same = c.sync_first.ensures.same; images = c.sync_first.ensures.images; time = c.sync_first.ensures.time }) c.in_ok-sync_first.ensures.ok (g.met.D.Disk.leaves_content c.sync_first.new.disk)
    c.recover_store.ensures.same c.shut_other.ensures.time (λ f exposed. c.in_ok-recovered.ensures.found f (c.sync_first.ensures.same ∙ exposed)) c.shut_other.ensures.trail c.shut_other.ensures.images f t exposed shows

pub shut_other-requires : goal.shut_other-requires
shut_other-requires g c = record { fits = (c.in_ok-recovered.ensures.kept (empty_cache 0)).lawful }

pub returns-in_err-recovered-clause-err : goal.returns-in_err-recovered-clause-err
returns-in_err-recovered-clause-err g c = λ failed f exposed.
    let l = looks g (goal.at.returns-in_err-recovered-clause-err g c).After-recover_store in
    inl (l.same, l.images)

pub returns-in_err-recovered-clause-same : goal.returns-in_err-recovered-clause-same
returns-in_err-recovered-clause-same g c =
    looks_kept c.from_residual-in_err-recovered.result _ (g.D.Disk.view c.recover_store.new.disk) (looks g (goal.at.returns-in_err-recovered-clause-same g c).After-recover_store)

pub returns-in_err-shut_other-clause-err : goal.returns-in_err-shut_other-clause-err
returns-in_err-shut_other-clause-err g c = λ failed f exposed.
    leaves_follows _ (g.D.Disk.view c.sync_first.new.disk) (g.D.Disk.view c.recover_store.new.disk) _ c.in_ok-recovered.recovered
    (synced g (goal.at.returns-in_err-shut_other-clause-err g c).After-recover_store) c.in_ok-sync_first.ensures.ok (g.met.D.Disk.leaves_content c.sync_first.new.disk) c.recover_store.ensures.same c.shut_other.ensures.time
    (λ f exposed. c.in_ok-recovered.ensures.found f (c.sync_first.ensures.same ∙ exposed)) c.shut_other.ensures.trail c.shut_other.ensures.images f exposed

pub returns-clause-ok : goal.returns-clause-ok
returns-clause-ok g c = λ cap.
    opened_as _ (g.D.Disk.view c.sync_first.new.disk) (g.D.Disk.view c.recover_store.new.disk) _ c.in_ok-recovered.recovered
    (synced g (goal.at.returns-clause-ok g c).After-recover_store) c.in_ok-sync_first.ensures.ok (g.met.D.Disk.leaves_content c.sync_first.new.disk) c.recover_store.ensures.same c.shut_other.ensures.time
    (λ f exposed. c.in_ok-recovered.ensures.found f (c.sync_first.ensures.same ∙ exposed)) c.shut_other.ensures.trail c.shut_other.ensures.images c.in_ok-shut_other.ensures.kept c.in_ok-shut_other.ensures.durable (λ calm. ap g.D.Disk.view (c.shut_other.ensures.same calm)) c.in_ok-recovered.ensures.cursors c.in_ok-recovered.ensures.filters c.in_ok-recovered.ensures.ok c.in_ok-recovered.ensures.kept cap

pub returns-in_err-sync_first-clause-trail : goal.returns-in_err-sync_first-clause-trail
returns-in_err-sync_first-clause-trail g c = λ f exposed each. kept_whole _ _ each c.sync_first.ensures.images

pub returns-in_err-recovered-clause-trail : goal.returns-in_err-recovered-clause-trail
returns-in_err-recovered-clause-trail g c = λ f exposed each. kept_whole _ _ each (looks g (goal.at.returns-in_err-recovered-clause-trail g c).After-recover_store).images

pub returns-in_err-shut_other-clause-trail : goal.returns-in_err-shut_other-clause-trail
returns-in_err-shut_other-clause-trail g c = λ f exposed each.
    followed_whole _ _ each f exposed (g.met.D.Disk.leaves_content c.args.disk.now) (λ t shows. follows g (goal.at.returns-in_err-shut_other-clause-trail g c).After-shut_other f t exposed shows)

pub returns-clause-trail : goal.returns-clause-trail
returns-clause-trail g c = λ f exposed each.
    followed_whole _ _ each f exposed (g.met.D.Disk.leaves_content c.args.disk.now) (λ t shows. follows g (goal.at.returns-clause-trail g c).After-shut_other f t exposed shows)

pub returns-clause-images : goal.returns-clause-images
returns-clause-images g c = λ f t exposed shows image left. left_one _ _ f image t (follows g (goal.at.returns-clause-images g c).After-shut_other f t exposed shows) left

pub returns-in_err-shut_other-clause-cause : goal.returns-in_err-shut_other-clause-cause
returns-in_err-shut_other-clause-cause g c =
    let p = err_from_is_err_and c.from_residual-in_err-shut_other.result c.from_residual-in_err-shut_other.ensures.1 in
    let before : ℕ = g.D.Disk.faults c.args.disk.now in
    let now : ℕ = g.D.Disk.faults c.shut_other.new.disk in
    let calm : g.D.Disk.faults c.recover_store.new.disk ≡ before = c.in_ok-recovered.ensures.cause.ok ∙ c.in_ok-sync_first.ensures.cause.ok in
    failed_cause c.from_residual-in_err-shut_other.result before now (p.1 ∙ ap (λ (e : AttachFault). Err e) p.2)
    (subst (λ (n : ℕ). n ≤ now) calm c.shut_other.ensures.cause.later)
    (subst (λ (n : ℕ). Rose n now) calm c.in_err-shut_other.ensures.cause.err)

pub returns-in_err-shut_other-clause-same : goal.returns-in_err-shut_other-clause-same
returns-in_err-shut_other-clause-same g c =
    let p = err_from_is_err_and c.from_residual-in_err-shut_other.result c.from_residual-in_err-shut_other.ensures.1 in
    rw p.1 (λ other. absurd (other p.2))
