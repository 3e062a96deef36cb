use Rattle.std.proofs.Common.{Some, Ok, refl, ap, ◌∙◌, subst, arith, ℕ}
use Rattle.def_crash.specs.Blocks.{KeepsTaken}
use Rattle.def_publish.specs.Contents.{Contents}
use Rattle.strat_journal.specs.Log.{batch_region}
use Rattle.strat_memory.specs.RecoveredFields.{held_of, empty_cache}
use Rattle.strat_store.proofs.ChangingLemmas.{cursors_stay, log_of, region_low, kept_more, breaks, takes, step_trail, told_trail, carries, finds_none, room_kept}
use Rattle.strat_store.proofs.LeavingLemmas.{logged_leaves, taken_calm, taken_well}
use Rattle.strat_memory.specs.Memory.{Memory}
use Rattle.strat_publish.specs.Publishing.{is_in_front}
use Rattle.strat_publish.specs.Settling.{KeepsPublished}
use Rattle.strat_store.proofs.changing.carry_out.Goals as goal

pub log_change-requires-clause-none : goal.log_change-requires-clause-none
log_change-requires-clause-none g c = (c.requires.kept (empty_cache 0)).log.batch

pub log_change-requires-clause-room : goal.log_change-requires-clause-room
log_change-requires-clause-room g c = omega (arith, c.requires.room.0, (c.requires.kept (empty_cache 0)).log.mem)

pub log_change-requires-clause-kept : goal.log_change-requires-clause-kept
log_change-requires-clause-kept g c =
    let kept = c.requires.kept (empty_cache 0) in
    (kept.log.lawful, let active = kept.log.active in let most = kept.lawful.region_most in omega (arith, active, most))

pub returns-in_default-clause-ok : goal.returns-in_default-clause-ok
returns-in_default-clause-ok g c x cached stands =
    breaks c.args.held.now cached (c.requires.kept cached) (g.D.Disk.view c.args.disk.now) x stands.stands _ c.requires.none
    (record c.args.held.now { journal = c.log_change.new.journal }) (g.D.Disk.view c.log_change.new.disk)

pub returns-in_default-clause-trail : goal.returns-in_default-clause-trail
returns-in_default-clause-trail g c x cached stands =
    let kept = c.requires.kept cached in
    let logged =
    c.log_change.ensures.trail x stands.stands (log_of c.args.held.now cached kept x stands.held)
    (takes c.args.held.now cached kept (g.D.Disk.view c.args.disk.now) x stands _ c.requires.none c.requires.room.0) in (
      step_trail c.args.held.now cached kept (g.D.Disk.view c.args.disk.now) x stands _ c.requires.none c.requires.room.0 (g.D.Disk.view c.log_change.new.disk) 0 logged.0,
      logged.1,
      λ d since. logged.2 d since ∙ ap (λ (y : Contents). Ok (Some (y.slot, y.sb))) stands.held,
    )

pub take-requires-clause-room : goal.take-requires-clause-room
take-requires-clause-room g c =
    room_kept (held_of c.args.held.now (empty_cache 0)) (c.requires.kept (empty_cache 0)) _ c.requires.room.0 c.requires.room.1

pub returns-clause-ok : goal.returns-clause-ok
returns-clause-ok g c x cached one =
    let kept = c.requires.kept cached in
    let stands = one.stands in
    let of = log_of c.args.held.now cached kept x stands.held in
    carries c.args.held.now cached kept (g.D.Disk.view c.args.disk.now) x stands _ c.requires.none c.requires.room.0 (g.D.Disk.view c.log_change.new.disk) c.log_change.new.journal c.take.new.self c.take.result
    one.next c.in-Ok.ensures.ok c.take.ensures.ok c.take.ensures.found
    (c.in-Ok.ensures.kept x stands.stands of (takes c.args.held.now cached kept (g.D.Disk.view c.args.disk.now) x stands _ c.requires.none c.requires.room.0)).1
    c.in-Ok.ensures.same

pub returns-clause-trail : goal.returns-clause-trail
returns-clause-trail g c x cached stands =
    let kept = c.requires.kept cached in
    let of = log_of c.args.held.now cached kept x stands.held in
    let may = takes c.args.held.now cached kept (g.D.Disk.view c.args.disk.now) x stands _ c.requires.none c.requires.room.0 in (
      told_trail c.args.held.now cached kept (g.D.Disk.view c.args.disk.now) x stands _ c.requires.none c.requires.room.0 (g.D.Disk.view c.log_change.new.disk) c.take.result c.take.ensures.found
          (c.in-Ok.ensures.kept x stands.stands of may).0,
      (c.log_change.ensures.trail x stands.stands of may).1,
      λ d since. (c.log_change.ensures.trail x stands.stands of may).2 d since ∙ ap (λ (y : Contents). Ok (Some (y.slot, y.sb))) stands.held,
    )

pub returns-clause-kept : goal.returns-clause-kept
returns-clause-kept g c calm cached =
    kept_more c.args.held.now cached (c.requires.kept cached) _ c.requires.fits c.requires.none c.requires.room.0 c.requires.room.1 c.log_change.new.journal c.take.new.self c.in-Ok.ensures.ok c.take.ensures.ok

pub returns-clause-same : goal.returns-clause-same
returns-clause-same g c =
    let well = taken_well c.args.held.now.memory _ c.take.result c.take.ensures.found in
    (refl, finds_none c.args.held.now.memory _ c.take.result c.take.ensures.found, well.0, well.1, taken_calm c.args.held.now.memory _ c.take.result c.take.ensures.found)

pub returns-clause-found : goal.returns-clause-found
returns-clause-found g c = (ap (λ (m : Memory). m.cursors) c.take.ensures.ok ∙ cursors_stay c.args.held.now.memory _, c.take.ensures.kept, λ cached. refl)

pub returns-clause-images : goal.returns-clause-images
returns-clause-images g c =
    let mem = (c.requires.kept (empty_cache 0)).log.mem in
    (c.log_change.ensures.time, λ other f h was now. subst (λ (n : ℕ). KeepsTaken (is_in_front n) f h) mem (c.in-Ok.ensures.same f h was now))

pub returns-in_default-clause-disk : goal.returns-in_default-clause-disk
returns-in_default-clause-disk g c = λ cached. (record { slot = refl; sb = refl; chained = refl; levels = refl; filters = refl }, λ other. absurd (other refl))

pub returns-clause-disk : goal.returns-clause-disk
returns-clause-disk g c = λ cached.
    let mem = (c.requires.kept cached).log.mem in
    let t = held_of (record c.args.held.now { journal = c.log_change.new.journal; memory = c.take.new.self }) cached in
    let same : KeepsPublished (held_of c.args.held.now cached) t = record { slot = refl; sb = refl; chained = refl; levels = refl; filters = refl } in (
      same,
      λ other on. logged_leaves (g.D.Disk.view c.args.disk.now) (g.D.Disk.view c.log_change.new.disk) (held_of c.args.held.now cached) t
          (batch_region c.args.held.now.journal) (c.requires.kept cached) (region_low c.args.held.now cached (c.requires.kept cached)) same refl c.log_change.ensures.images c.log_change.ensures.time
          (λ f h was now. subst (λ (n : ℕ). KeepsTaken (is_in_front n) f h) mem (c.in-Ok.ensures.same f h was now)) on,
    )
