use Rattle.std.proofs.Common.{◌<◌, ℕ, refl, sym, ap, ◌∙◌, subst, arith}
use Rattle.std.specs.Prelude.{option_map}
use Rattle.strat_base.proofs.ResultFacts.{err_of}
use Rattle.def_crash.proofs.MomentLemmas.{each_then, passes_trans}
use Rattle.def_crash.specs.Blocks.{TearsBlocks}
use Rattle.def_bytes.specs.SuperBlock.{Super}
use Rattle.strat_array.specs.Kept.{Blocks}
use Rattle.strat_gate.specs.SuperView.{super_of}
use Rattle.strat_manifest.specs.ManifestView.{manifest_of}
use Rattle.def_publish.specs.Contents.{Contents}
use Rattle.def_publish.specs.Standing.{ShowsTable}
use Rattle.strat_memory.proofs.PayingLemmas.{paid_then}
use Rattle.strat_memory.specs.Admitting.{chained_of}
use Rattle.strat_memory.specs.Held.{Held, IsConsistent, IsOnDisk}
use Rattle.strat_memory.specs.RecoveredFields.{held_of, empty_cache, open_of}
use Rattle.strat_publish.proofs.CheckpointLemmas.{ended_made, made_taken_from}
use Rattle.strat_publish.proofs.CountingLemmas.{paid_beside, super_beside, super_laid, counts_next}
use Rattle.strat_publish.proofs.LaidLemmas.{beside_on, published_on}
use Rattle.strat_publish.proofs.ObstacleLemmas.{device_fit, device_short, off_ok, on_err}
use Rattle.strat_publish.proofs.SettledLemmas.{trail_beside, stands_beside, arrays_kept, arrays_stay, one_trail, published_as, consistent_next}
use Rattle.strat_publish.proofs.WholeLemmas.{whole_promotes}
use Rattle.strat_publish.specs.Counting.{CountsWritten}
use Rattle.strat_publish.specs.Outcomes.{IsPublishedAs}
use Rattle.strat_publish.specs.Promoting.{StandsEnded, StandsMade}
use Rattle.strat_publish.specs.Publishing.{is_in_front}
use Rattle.strat_publish.specs.Settling.{HasOldOrNext}
use Rattle.strat_publish.proofs.checkpoint.publish_made.Given.{Over}
use Rattle.strat_publish.proofs.checkpoint.publish_made.Goals.{After-take_made-made}
use Rattle.strat_publish.proofs.checkpoint.publish_made.Goals as goal

-- where what was made stands, the next contents may be readied
made_here : (g : Over) (c : After-take_made-made g) (x : Contents) (cached : Blocks) → StandsEnded (g.D.Disk.view c.args.disk.now) (held_of c.args.held.now cached) x (open_of c.args.promoting)
    → StandsMade (g.D.Disk.view c.args.disk.now) (held_of c.args.held.now cached) x c.args.promoting.space c.take_made-made.result.target c.take_made-made.result.level c.take_made-made.result.filters
made_here g c x cached st =
    ended_made (g.D.Disk.view c.args.disk.now) (held_of c.args.held.now cached) x (open_of c.args.promoting) c.take_made-made.result c.take_made-made.ensures.ok.0 c.take_made-made.ensures.ok.1 c.take_made-made.ensures.filters st

pub take_made-made-requires-clause-kept : goal.take_made-made-requires-clause-kept
take_made-made-requires-clause-kept g c = c.requires.kept.1

pub take_made-made-requires-clause-fits : goal.take_made-made-requires-clause-fits
take_made-made-requires-clause-fits g c = (whole_promotes (held_of c.args.held.now (empty_cache 0)) (c.requires.kept.0 (empty_cache 0)).0).first

pub prepare_next-requires-clause-kept : goal.prepare_next-requires-clause-kept
prepare_next-requires-clause-kept g c = λ cached.
    let all = c.requires.kept.0 cached in
    (all.0, made_taken_from (held_of c.args.held.now cached) (open_of c.args.promoting) c.take_made-made.result c.take_made-made.ensures.ok.0 c.take_made-made.ensures.ok.1 all.1)

pub install-requires-clause-fits : goal.install-requires-clause-fits
install-requires-clause-fits g c =
    let whole = (c.requires.kept.0 (empty_cache 0)).0 in
    (whole.slot, let active = whole.log.active in let most = whole.lawful.region_most in omega (arith, active, most), (c.in_ok-next.ensures.fits (empty_cache 0)).lawful, c.in_ok-next.ensures.kept.2, c.in_ok-next.ensures.kept.3)

pub install-requires-clause-same : goal.install-requires-clause-same
install-requires-clause-same g c = ((c.in_ok-next.ensures.fits (empty_cache 0)).mem, c.requires.kept.2)

pub returns-in_err-next-clause-err : goal.returns-in_err-next-clause-err
returns-in_err-next-clause-err g c = λ unfit x cached st.
    c.in_err-next.ensures.err (err_of c.from_residual.result _ _ c.from_residual.ensures.1 unfit) x cached (made_here g (goal.at.returns-in_err-next-clause-err g c).After-take_made-made x cached st)

pub returns-in_err-install-clause-err : goal.returns-in_err-install-clause-err
returns-in_err-install-clause-err g c = λ unfit. absurd (device_fit c.from_residual-in_err-install.result c.from_residual-in_err-install.ensures.1 unfit)

pub returns-in_err-next-clause-kept : goal.returns-in_err-next-clause-kept
returns-in_err-next-clause-kept g c = (
  off_ok _ c.from_residual.result _ c.from_residual.ensures.1,
  λ short x cached stands.
      stands_beside (g.D.Disk.view c.args.disk.now) (g.D.Disk.view c.prepare_next.new.disk) (held_of c.args.held.now cached) x (ap (option_map open_of) c.requires.kept.2) stands (c.prepare_next.ensures.images cached)
      (g.met.D.Disk.leaves_content c.prepare_next.new.disk),
)

pub returns-in_err-install-clause-kept : goal.returns-in_err-install-clause-kept
returns-in_err-install-clause-kept g c =
    (off_ok _ c.from_residual-in_err-install.result _ c.from_residual-in_err-install.ensures.1, λ short. absurd (device_short c.from_residual-in_err-install.result c.from_residual-in_err-install.ensures.1 short))

pub returns-in_err-next-clause-trail : goal.returns-in_err-next-clause-trail
returns-in_err-next-clause-trail g c = λ x cached st.
    let v = g.D.Disk.view c.args.disk.now in
    let w = g.D.Disk.view c.prepare_next.new.disk in (
      trail_beside v w (held_of c.args.held.now cached) x st.stands (c.prepare_next.ensures.images cached),
      λ paid. paid_beside v w (held_of c.args.held.now cached) x st.stands (c.prepare_next.ensures.images cached) paid,
      super_beside v w (held_of c.args.held.now cached) x st.stands (c.prepare_next.ensures.images cached),
    )

pub returns-in_err-next-clause-damaged : goal.returns-in_err-next-clause-damaged
returns-in_err-next-clause-damaged g c = λ b torn. c.in_err-next.ensures.damaged b (err_of c.from_residual.result _ _ c.from_residual.ensures.1 torn)

pub returns-in_err-install-clause-trail : goal.returns-in_err-install-clause-trail
returns-in_err-install-clause-trail g c = λ x cached st.
    let v = g.D.Disk.view c.args.disk.now in
    let w = g.D.Disk.view c.prepare_next.new.disk in
    let ready = c.in_ok-next.ensures.ok x cached (made_here g (goal.at.returns-in_err-install-clause-trail g c).After-take_made-made x cached st) in
    let laid = c.install.ensures.trail x _ ready.computed in (
      one_trail ShowsTable w (g.D.Disk.view c.install.new.disk) _ _ c.install.ensures.time (trail_beside v w (held_of c.args.held.now cached) x st.stands (c.prepare_next.ensures.images cached)) laid.0,
      λ paid.
          paid_then w (g.D.Disk.view c.install.new.disk) v.moment c.install.ensures.time
          (paid_beside v w (held_of c.args.held.now cached) x st.stands (c.prepare_next.ensures.images cached) paid) (laid.1 paid (ready.paid paid c.requires.kept.3)),
      each_then w (g.D.Disk.view c.install.new.disk) v.moment (HasOldOrNext c.args.held.now.slot (super_of c.args.held.now.sb)) c.install.ensures.time
          (super_beside v w (held_of c.args.held.now cached) x st.stands (c.prepare_next.ensures.images cached))
          (super_laid (g.D.Disk.view c.install.new.disk) w.moment (held_of c.args.held.now cached) x (super_of c.in_ok-next.next.sb) (chained_of c.in_ok-next.next.published) ready.levels c.in_ok-next.ensures.found.first c.in_ok-next.ensures.found.size
          st.stands.held c.in_ok-next.ensures.found.sb_is laid.2),
    )

pub returns-clause-trail : goal.returns-clause-trail
returns-clause-trail g c = λ x cached st.
    let v = g.D.Disk.view c.args.disk.now in
    let w = g.D.Disk.view c.prepare_next.new.disk in
    let ready = c.in_ok-next.ensures.ok x cached (made_here g (goal.at.returns-clause-trail g c).After-take_made-made x cached st) in
    let laid = c.install.ensures.trail x _ ready.computed in (
      one_trail ShowsTable w (g.D.Disk.view c.install.new.disk) _ _ c.install.ensures.time (trail_beside v w (held_of c.args.held.now cached) x st.stands (c.prepare_next.ensures.images cached)) laid.0,
      λ paid.
          paid_then w (g.D.Disk.view c.install.new.disk) v.moment c.install.ensures.time
          (paid_beside v w (held_of c.args.held.now cached) x st.stands (c.prepare_next.ensures.images cached) paid) (laid.1 paid (ready.paid paid c.requires.kept.3)),
      each_then w (g.D.Disk.view c.install.new.disk) v.moment (HasOldOrNext c.args.held.now.slot (super_of c.args.held.now.sb)) c.install.ensures.time
          (super_beside v w (held_of c.args.held.now cached) x st.stands (c.prepare_next.ensures.images cached))
          (super_laid (g.D.Disk.view c.install.new.disk) w.moment (held_of c.args.held.now cached) x (super_of c.in_ok-next.next.sb) (chained_of c.in_ok-next.next.published) ready.levels c.in_ok-next.ensures.found.first c.in_ok-next.ensures.found.size
          st.stands.held c.in_ok-next.ensures.found.sb_is laid.2),
    )

pub returns-clause-ok : goal.returns-clause-ok
returns-clause-ok g c = λ x cached st.
    let v = g.D.Disk.view c.args.disk.now in
    let w = g.D.Disk.view c.prepare_next.new.disk in
    let u = g.D.Disk.view c.install.new.disk in
    let s = held_of c.args.held.now cached in
    let whole = (c.requires.kept.0 cached).0 in
    let ready = c.in_ok-next.ensures.ok x cached (made_here g (goal.at.returns-clause-ok g c).After-take_made-made x cached st) in
    let next = c.in_ok-next.next in
    let front = subst (λ (n : ℕ). TearsBlocks (is_in_front n) w u) whole.log.mem c.install.ensures.images in
    subst (λ (h : Held). IsPublishedAs u x h × CountsWritten (manifest_of c.args.held.now.published.manifest) h.chained.manifest)
    (sym (c.in_ok-install.ensures.ok cached)) (
      published_as v w u s x next.target (super_of next.sb) (chained_of next.published) next.published.levels next.filters
          whole st.stands (c.prepare_next.ensures.images cached) ready front (c.in_ok-install.ensures.kept x _ ready.computed),
      counts_next w s x whole st.stands.held (super_of next.sb) (chained_of next.published) _ ready,
    )

pub returns-clause-kept : goal.returns-clause-kept
returns-clause-kept g c = (
  λ cached.
      let next = c.in_ok-next.next in
      let admitted = c.in_ok-next.ensures.kept.0 in
      subst IsConsistent (sym (c.in_ok-install.ensures.ok cached))
      (consistent_next (held_of c.args.held.now cached) next.target (super_of next.sb) (chained_of next.published) next.published.levels next.filters (c.requires.kept.0 cached).0 c.requires.kept.4 c.requires.kept.3
      (c.in_ok-next.ensures.fits cached) c.in_ok-next.ensures.found admitted.spelled admitted.belonging admitted.placed (c.in_ok-next.ensures.kept.1 cached)),
  λ short. absurd short,
)

pub returns-clause-found : goal.returns-clause-found
returns-clause-found g c = λ cached.
    let next = c.in_ok-next.next in
    record {
      target = next.target;
      sb = super_of next.sb;
      chained = chained_of next.published;
      levels = next.published.levels;
      made = next.filters;
      low = c.in_ok-next.ensures.kept.2;
      next = c.in_ok-install.ensures.ok cached;
      are = c.in_ok-next.ensures.found;
    }

pub returns-in_err-next-clause-disk : goal.returns-in_err-next-clause-disk
returns-in_err-next-clause-disk g c = λ other cached on.
    beside_on (g.D.Disk.view c.args.disk.now) (g.D.Disk.view c.prepare_next.new.disk) (held_of c.args.held.now cached) (ap (option_map open_of) c.requires.kept.2) (c.prepare_next.ensures.images cached) on

pub returns-clause-disk : goal.returns-clause-disk
returns-clause-disk g c = λ other cached on.
    let v = g.D.Disk.view c.args.disk.now in
    let s = held_of c.args.held.now cached in
    let next = c.in_ok-next.next in
    let found = c.in_ok-next.ensures.found in
    let greater : c.args.held.now.sb.generation < next.sb.generation = omega (arith, ap (λ (sb : Super). sb.generation) found.sb_is) in
    subst (λ (h : Held). IsOnDisk (g.D.Disk.view c.install.new.disk) h) (sym (c.in_ok-install.ensures.ok cached))
    (published_on v (g.D.Disk.view c.prepare_next.new.disk) (g.D.Disk.view c.install.new.disk) s next.target (super_of next.sb) (chained_of next.published) next.published.levels next.filters
    (c.requires.kept.0 cached).0 (ap (option_map open_of) c.requires.kept.2) (ap (λ (sb : Super). sb.format) found.sb_is) (c.prepare_next.ensures.images cached) c.in_ok-next.ensures.disk (g.met.D.Disk.leaves_content c.prepare_next.new.disk) c.in_ok-install.ensures.disk c.install.ensures.time
    greater (c.in_ok-next.ensures.fits cached).mem c.in_ok-next.ensures.kept.0.belonging on)

pub returns-in_err-next-clause-same : goal.returns-in_err-next-clause-same
returns-in_err-next-clause-same g c =
    (refl, λ short. refl, on_err c.from_residual.result _ (refl, c.requires.kept.2, λ cached. record { slot = refl; sb = refl; chained = refl; levels = refl; filters = refl }))

pub returns-in_err-install-clause-same : goal.returns-in_err-install-clause-same
returns-in_err-install-clause-same g c =
    let told = c.in_err-install.ensures.err in (
      c.install.ensures.same,
      λ short. absurd (device_short c.from_residual-in_err-install.result c.from_residual-in_err-install.ensures.1 short),
      on_err c.from_residual-in_err-install.result _ (told.0, told.1 ∙ c.requires.kept.2, told.2),
    )

pub returns-in_err-next-clause-time : goal.returns-in_err-next-clause-time
returns-in_err-next-clause-time g c =
    let s = held_of c.args.held.now (empty_cache 0) in (
      (c.prepare_next.ensures.images (empty_cache 0)).tears.time,
      arrays_kept (g.D.Disk.view c.args.disk.now) (g.D.Disk.view c.prepare_next.new.disk) s (c.prepare_next.ensures.images (empty_cache 0)) (c.requires.kept.0 (empty_cache 0)).0.placed,
    )

pub returns-in_err-install-clause-time : goal.returns-in_err-install-clause-time
returns-in_err-install-clause-time g c =
    let s = held_of c.args.held.now (empty_cache 0) in
    let whole = (c.requires.kept.0 (empty_cache 0)).0 in (
      passes_trans (c.prepare_next.ensures.images (empty_cache 0)).tears.time c.install.ensures.time,
      arrays_stay (g.D.Disk.view c.args.disk.now) (g.D.Disk.view c.prepare_next.new.disk) (g.D.Disk.view c.install.new.disk) s c.args.held.now.journal.mem whole whole.log.mem
          (c.prepare_next.ensures.images (empty_cache 0)) c.install.ensures.images,
    )

pub returns-clause-time : goal.returns-clause-time
returns-clause-time g c =
    let s = held_of c.args.held.now (empty_cache 0) in
    let whole = (c.requires.kept.0 (empty_cache 0)).0 in (
      passes_trans (c.prepare_next.ensures.images (empty_cache 0)).tears.time c.install.ensures.time,
      arrays_stay (g.D.Disk.view c.args.disk.now) (g.D.Disk.view c.prepare_next.new.disk) (g.D.Disk.view c.install.new.disk) s c.args.held.now.journal.mem whole whole.log.mem
          (c.prepare_next.ensures.images (empty_cache 0)) c.install.ensures.images,
    )
