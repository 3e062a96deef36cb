use Rattle.std.proofs.Common.{ℕ, inl, inr, ◌⊎◌, [], ◌∷◌, Option, refl, sym, ap, ◌∙◌, subst, arith}
use Rattle.std.specs.Prelude.{is_some, option_map}
use Rattle.strat_array.specs.Kept.{Blocks}
use Rattle.strat_base.proofs.ResultFacts.{err_of, on_ok_then}
use Rattle.def_crash.proofs.MomentLemmas.{each_then, passes_trans}
use Rattle.def_crash.proofs.BlockLemmas.{keeps_trans}
use Rattle.def_crash.specs.Blocks.{AgreeOn}
use Rattle.def_crash.specs.Faults.{HasCause}
use Rattle.def_crash.specs.Image.{Image}
use Rattle.def_crash.specs.Moments.{Exposes, Passes}
use Rattle.def_crash.specs.Trail.{Trail}
use Rattle.strat_gate.specs.SuperView.{super_of}
use Rattle.strat_promote.proofs.PushingLemmas.{still_told}
use Rattle.strat_promote.specs.Job.{blocks_listed}
use Rattle.strat_promote.specs.declared.obstacle.Obstacle.TheVariants.{Device}
use Rattle.def_meaning.specs.StateTable.{table_of}
use Rattle.def_publish.specs.Contents.{Contents, contents_state}
use Rattle.def_publish.specs.Standing.{ShowsTable}
use Rattle.def_slice.specs.Opened.{OpenPromotion, slice_numbers}
use Rattle.def_state.specs.State.{IsPaid}
use Rattle.strat_memory.proofs.PayingLemmas.{paid_then}
use Rattle.strat_memory.specs.Held.{Held, IsConsistent, IsOnDisk, StandsWith, arrays_held}
use Rattle.strat_memory.specs.Memory.{SealedLevel}
use Rattle.strat_memory.specs.Paying.{ArePaidSince}
use Rattle.strat_memory.specs.RecoveredFields.{held_of, empty_cache, open_of}
use Rattle.strat_memory.specs.declared.open_store.OpenStore.{OpenStore}
use Rattle.strat_publish.proofs.AdvancingLemmas.{on_more, on_ok_both, stands_more, whole_more}
use Rattle.strat_publish.proofs.CountingLemmas.{paid_beside, super_beside}
use Rattle.strat_publish.proofs.LaidLemmas.{beside_on}
use Rattle.strat_publish.proofs.ObstacleLemmas.{off_ok, on_err}
use Rattle.strat_publish.proofs.SettledLemmas.{arrays_kept, one_trail, stands_beside, trail_beside}
use Rattle.strat_publish.proofs.SlicingLemmas.{beside_apart, done_of, more_of}
use Rattle.strat_publish.specs.Advancing.{HasAdvanced}
use Rattle.strat_publish.specs.Promoting.{KeepsOpenToBudget, StandsOpenWith}
use Rattle.strat_publish.specs.Settling.{HasOldOrNext, HaveOldOrNext, IsInstalled, KeepsPublished, TakesOpen, WritesBeside}
use Rattle.strat_publish.proofs.advancing.go_on.Given.{Over}
use Rattle.strat_publish.proofs.advancing.go_on.Goals.{After-slice_open}
use Rattle.strat_publish.proofs.advancing.go_on.Goals as goal

-- what the slice wrote is beside the store

beside_here : (g : Over) (c : After-slice_open g) (cached : Blocks) → WritesBeside (g.D.Disk.view c.args.disk.now) (g.D.Disk.view c.slice_open.new.disk) (held_of c.args.held.now cached)
beside_here g c cached =
    let both = c.requires.kept.0 cached in
    beside_apart (held_of c.args.held.now cached) c.args.promoting.space _ both.1.first both.1.apart (g.D.Disk.view c.args.disk.now) (g.D.Disk.view c.slice_open.new.disk) c.slice_open.ensures.images

trail_here : (g : Over) (c : After-slice_open g) (x : Contents) (cached : Blocks) → StandsOpenWith (g.D.Disk.view c.args.disk.now) (held_of c.args.held.now cached) x (open_of c.args.promoting)
    → Trail ShowsTable (g.D.Disk.view c.slice_open.new.disk) (g.D.Disk.view c.args.disk.now).moment (table_of (contents_state x) ∷ []) 0
    × (IsPaid (contents_state x) → ArePaidSince (g.D.Disk.view c.slice_open.new.disk) (g.D.Disk.view c.args.disk.now).moment)
    × HaveOldOrNext (g.D.Disk.view c.slice_open.new.disk) (g.D.Disk.view c.args.disk.now).moment c.args.held.now.slot (super_of c.args.held.now.sb)
trail_here g c x cached st =
    let v = g.D.Disk.view c.args.disk.now in
    let w = g.D.Disk.view c.slice_open.new.disk in (
      trail_beside v w (held_of c.args.held.now cached) x st.stands (beside_here g c cached),
      λ paid. paid_beside v w (held_of c.args.held.now cached) x st.stands (beside_here g c cached) paid,
      super_beside v w (held_of c.args.held.now cached) x st.stands (beside_here g c cached),
    )

still_here : (g : Over) (c : After-slice_open g) (x : Contents) (cached : Blocks) → StandsWith (g.D.Disk.view c.args.disk.now) (held_of c.args.held.now cached) x → StandsWith (g.D.Disk.view c.slice_open.new.disk) (held_of c.args.held.now cached) x
still_here g c x cached stands =
    stands_beside (g.D.Disk.view c.args.disk.now) (g.D.Disk.view c.slice_open.new.disk) (held_of c.args.held.now cached) x (ap (option_map open_of) c.requires.kept.1) stands (beside_here g c cached) (g.met.D.Disk.leaves_content c.slice_open.new.disk)

on_here : (g : Over) (c : After-slice_open g) (cached : Blocks) → IsOnDisk (g.D.Disk.view c.args.disk.now) (held_of c.args.held.now cached) → IsOnDisk (g.D.Disk.view c.slice_open.new.disk) (held_of c.args.held.now cached)
on_here g c cached on =
    beside_on (g.D.Disk.view c.args.disk.now) (g.D.Disk.view c.slice_open.new.disk) (held_of c.args.held.now cached) (ap (option_map open_of) c.requires.kept.1) (beside_here g c cached) on

time_here : (g : Over) (c : After-slice_open g) → Passes (g.D.Disk.view c.args.disk.now) (g.D.Disk.view c.slice_open.new.disk)
    × ((f h : Image) → Exposes (g.D.Disk.view c.args.disk.now) f → Exposes (g.D.Disk.view c.slice_open.new.disk) h → AgreeOn (blocks_listed (arrays_held c.args.held.now.memory c.args.held.now.published.levels)) f h)
time_here g c =
    let beside = beside_here g c (empty_cache 0) in
    (beside.tears.time, arrays_kept (g.D.Disk.view c.args.disk.now) (g.D.Disk.view c.slice_open.new.disk) (held_of c.args.held.now (empty_cache 0)) beside (c.requires.kept.0 (empty_cache 0)).0.placed)

-- the slice failed

pub returns-in_err-progress-clause-kept : goal.returns-in_err-progress-clause-kept
returns-in_err-progress-clause-kept g c = (off_ok _ c.from_residual.result _ c.from_residual.ensures.1, λ short x cached stands. still_here g (goal.at.returns-in_err-progress-clause-kept g c).After-slice_open x cached stands)

pub returns-in_err-progress-clause-trail : goal.returns-in_err-progress-clause-trail
returns-in_err-progress-clause-trail g c = trail_here g (goal.at.returns-in_err-progress-clause-trail g c).After-slice_open

pub returns-in_err-progress-clause-disk : goal.returns-in_err-progress-clause-disk
returns-in_err-progress-clause-disk g c = λ other cached on read. on_here g (goal.at.returns-in_err-progress-clause-disk g c).After-slice_open cached on

pub returns-in_err-progress-clause-same : goal.returns-in_err-progress-clause-same
returns-in_err-progress-clause-same g c =
    (refl, λ short. refl, on_err c.from_residual.result _ (refl, c.requires.kept.1, λ cached. record { slot = refl; sb = refl; chained = refl; levels = refl; filters = refl }))

pub returns-in_err-progress-clause-err : goal.returns-in_err-progress-clause-err
returns-in_err-progress-clause-err g c = λ unfit. c.in_err-progress.ensures.err (err_of c.from_residual.result _ _ c.from_residual.ensures.1 unfit)

pub returns-in_err-progress-clause-damaged : goal.returns-in_err-progress-clause-damaged
returns-in_err-progress-clause-damaged g c = λ b torn. c.in_err-progress.ensures.damaged b (err_of c.from_residual.result _ _ c.from_residual.ensures.1 torn)

pub returns-in_err-progress-clause-time : goal.returns-in_err-progress-clause-time
returns-in_err-progress-clause-time g c = time_here g (goal.at.returns-in_err-progress-clause-time g c).After-slice_open

-- it left an entry

pub keep_open-requires : goal.keep_open-requires
keep_open-requires g c =
    let lawful = (c.requires.kept.0 (empty_cache 0)).0.lawful in
    record { fits = (let least = lawful.mem_least in omega (arith, least), lawful.mem_most) }

pub returns-in_ok-keep_open-in-More-clause-ok : goal.returns-in_ok-keep_open-in-More-clause-ok
returns-in_ok-keep_open-in-More-clause-ok g c = λ x cached st.
    let w = g.D.Disk.view c.slice_open.new.disk in
    let then = more_of _ c.in_ok-progress.progress c.in-More.is c.in_ok-progress.ensures.ok x cached st in
    subst (λ (h : OpenStore). HasAdvanced w (held_of c.args.held.now cached) x (held_of h cached)) (sym c.in_ok-keep_open-in-More.ensures.ok.0)
    (inl (stands_more w (held_of c.args.held.now cached) x (open_of c.slice_open.new.promoting) then.1 then.0 then.2))

pub returns-in_ok-keep_open-in-More-clause-budget : goal.returns-in_ok-keep_open-in-More-clause-budget
returns-in_ok-keep_open-in-More-clause-budget g c =
    subst (λ (h : OpenStore). KeepsOpenToBudget (g.D.Disk.view c.args.disk.now) c.args.held.now (open_of c.args.promoting) (option_map slice_numbers (option_map open_of h.promoting))) (sym c.in_ok-keep_open-in-More.ensures.ok.0)
    (more_of _ c.in_ok-progress.progress c.in-More.is c.in_ok-progress.ensures.budget)

pub returns-in_ok-keep_open-in-More-clause-found : goal.returns-in_ok-keep_open-in-More-clause-found
returns-in_ok-keep_open-in-More-clause-found g c = λ cached.
    subst (λ (h : OpenStore). TakesOpen (held_of c.args.held.now cached) (held_of h cached) ⊎ IsInstalled (held_of c.args.held.now cached) (held_of h cached)) (sym c.in_ok-keep_open-in-More.ensures.ok.0)
    (inl (record { promotion = open_of c.slice_open.new.promoting; held = refl; room = c.in_ok-keep_open-in-More.ensures.ok.1 }))

pub returns-in_ok-keep_open-in-More-clause-disk : goal.returns-in_ok-keep_open-in-More-clause-disk
returns-in_ok-keep_open-in-More-clause-disk g c = λ other cached on read.
    let w = g.D.Disk.view c.slice_open.new.disk in
    subst (λ (h : OpenStore). IsOnDisk w (held_of h cached)) (sym c.in_ok-keep_open-in-More.ensures.ok.0)
    (on_more (g.D.Disk.view c.args.disk.now) w (held_of c.args.held.now cached) (open_of c.args.promoting) (open_of c.slice_open.new.promoting) (ap (option_map open_of) c.requires.kept.1)
    (beside_here g (goal.at.returns-in_ok-keep_open-in-More-clause-disk g c).After-slice_open cached) (more_of _ c.in_ok-progress.progress c.in-More.is c.in_ok-progress.ensures.found) on read)

pub returns-in_ok-keep_open-in-More-clause-trail : goal.returns-in_ok-keep_open-in-More-clause-trail
returns-in_ok-keep_open-in-More-clause-trail g c = trail_here g (goal.at.returns-in_ok-keep_open-in-More-clause-trail g c).After-slice_open

pub returns-in_ok-keep_open-in-More-clause-kept : goal.returns-in_ok-keep_open-in-More-clause-kept
returns-in_ok-keep_open-in-More-clause-kept g c = (
  λ cached.
      subst (λ (h : OpenStore). IsConsistent (held_of h cached)) (sym c.in_ok-keep_open-in-More.ensures.ok.0)
      (whole_more (held_of c.args.held.now cached) (open_of c.slice_open.new.promoting) (c.requires.kept.0 cached).0 (more_of _ c.in_ok-progress.progress c.in-More.is c.in_ok-progress.ensures.kept cached)),
  λ short. absurd short,
)

pub returns-in_ok-keep_open-in-More-clause-same : goal.returns-in_ok-keep_open-in-More-clause-same
returns-in_ok-keep_open-in-More-clause-same g c = (ap (λ (h : OpenStore). h.sb.mem) c.in_ok-keep_open-in-More.ensures.ok.0, λ short. absurd short, tt)

pub returns-in_ok-keep_open-in-More-clause-time : goal.returns-in_ok-keep_open-in-More-clause-time
returns-in_ok-keep_open-in-More-clause-time g c = time_here g (goal.at.returns-in_ok-keep_open-in-More-clause-time g c).After-slice_open

-- it left an entry, and the journal has no room

pub returns-in_err-keep_open-in-More-clause-err : goal.returns-in_err-keep_open-in-More-clause-err
returns-in_err-keep_open-in-More-clause-err g c = λ unfit x cached st.
    let then = more_of _ c.in_ok-progress.progress c.in-More.is c.in_ok-progress.ensures.ok x cached st in
    let full = c.in_err-keep_open-in-More.ensures.err.1 in
    absurd (omega (arith, then.0, full))

pub returns-in_err-keep_open-in-More-clause-kept : goal.returns-in_err-keep_open-in-More-clause-kept
returns-in_err-keep_open-in-More-clause-kept g c = (
  off_ok _ c.from_residual-in_err-keep_open-in-More.result _ c.from_residual-in_err-keep_open-in-More.ensures.1,
  λ short x cached stands.
      subst (λ (h : OpenStore). StandsWith (g.D.Disk.view c.slice_open.new.disk) (held_of h cached) x) (sym c.in_err-keep_open-in-More.ensures.err.0)
      (still_here g (goal.at.returns-in_err-keep_open-in-More-clause-kept g c).After-slice_open x cached stands),
)

pub returns-in_err-keep_open-in-More-clause-trail : goal.returns-in_err-keep_open-in-More-clause-trail
returns-in_err-keep_open-in-More-clause-trail g c = trail_here g (goal.at.returns-in_err-keep_open-in-More-clause-trail g c).After-slice_open

pub returns-in_err-keep_open-in-More-clause-disk : goal.returns-in_err-keep_open-in-More-clause-disk
returns-in_err-keep_open-in-More-clause-disk g c = λ other cached on read.
    subst (λ (h : OpenStore). IsOnDisk (g.D.Disk.view c.slice_open.new.disk) (held_of h cached)) (sym c.in_err-keep_open-in-More.ensures.err.0)
    (on_here g (goal.at.returns-in_err-keep_open-in-More-clause-disk g c).After-slice_open cached on)

pub returns-in_err-keep_open-in-More-clause-same : goal.returns-in_err-keep_open-in-More-clause-same
returns-in_err-keep_open-in-More-clause-same g c =
    let same = c.in_err-keep_open-in-More.ensures.err.0 in (
      ap (λ (h : OpenStore). h.sb.mem) same,
      λ short. same,
      on_err c.from_residual-in_err-keep_open-in-More.result _ (
        ap (λ (h : OpenStore). h.memory) same,
        ap (λ (h : OpenStore). h.promoting) same ∙ c.requires.kept.1,
        λ cached. subst (λ (h : OpenStore). KeepsPublished (held_of c.args.held.now cached) (held_of h cached)) (sym same) (record { slot = refl; sb = refl; chained = refl; levels = refl; filters = refl }),
      ),
    )

pub returns-in_err-keep_open-in-More-clause-time : goal.returns-in_err-keep_open-in-More-clause-time
returns-in_err-keep_open-in-More-clause-time g c = time_here g (goal.at.returns-in_err-keep_open-in-More-clause-time g c).After-slice_open

-- it was the last one

pub publish_made-requires : goal.publish_made-requires
publish_made-requires g c =
    let made = done_of _ c.in_ok-progress.progress c.in-Done.is c.in_ok-progress.ensures.kept in
    let some = ap (λ (o : Option SealedLevel). is_some o) (c.requires.kept.0 (empty_cache 0)).1.sealed_is in
    record { kept = (λ cached. ((c.requires.kept.0 cached).0, made.1 cached), made.0, c.requires.kept.1, c.requires.kept.2, some, c.requires.kept.3) }

pub returns-in-Done-clause-ok : goal.returns-in-Done-clause-ok
returns-in-Done-clause-ok g c = on_ok_both c.publish_made.result c.publish_made.ensures.ok c.publish_made.ensures.found (λ all installed x cached st.
    let published = all x cached (done_of _ c.in_ok-progress.progress c.in-Done.is c.in_ok-progress.ensures.ok x cached st) in
    inr (ap (λ (h : Held). h.promoting) (installed cached).next, published.0, published.1))

pub returns-in-Done-clause-budget : goal.returns-in-Done-clause-budget
returns-in-Done-clause-budget g c = on_ok_then c.publish_made.result c.publish_made.ensures.found (λ installed.
    subst (λ (p : Option OpenPromotion). KeepsOpenToBudget (g.D.Disk.view c.args.disk.now) c.args.held.now (open_of c.args.promoting) (option_map slice_numbers p)) (sym (ap (λ (h : Held). h.promoting) (installed (empty_cache 0)).next))
    (done_of _ c.in_ok-progress.progress c.in-Done.is c.in_ok-progress.ensures.budget))

pub returns-in-Done-clause-found : goal.returns-in-Done-clause-found
returns-in-Done-clause-found g c = on_ok_then c.publish_made.result c.publish_made.ensures.found (λ installed cached. inr (installed cached))

pub returns-in-Done-clause-disk : goal.returns-in-Done-clause-disk
returns-in-Done-clause-disk g c = λ other cached on read. c.publish_made.ensures.disk other cached (on_here g (goal.at.returns-in-Done-clause-disk g c).After-slice_open cached on)

pub returns-in-Done-clause-kept : goal.returns-in-Done-clause-kept
returns-in-Done-clause-kept g c = (c.publish_made.ensures.kept.0, λ short x cached stands. c.publish_made.ensures.kept.1 short x cached (still_here g (goal.at.returns-in-Done-clause-kept g c).After-slice_open x cached stands))

pub returns-in-Done-clause-trail : goal.returns-in-Done-clause-trail
returns-in-Done-clause-trail g c = λ x cached st.
    let w = g.D.Disk.view c.slice_open.new.disk in
    let u = g.D.Disk.view c.publish_made.new.disk in
    let here = trail_here g (goal.at.returns-in-Done-clause-trail g c).After-slice_open x cached st in
    let laid = c.publish_made.ensures.trail x cached (done_of _ c.in_ok-progress.progress c.in-Done.is c.in_ok-progress.ensures.ok x cached st) in
    let time = c.publish_made.ensures.time.0 in (
      one_trail ShowsTable w u _ _ time here.0 laid.0,
      λ paid. paid_then w u _ time (here.1 paid) (laid.1 paid),
      each_then w u _ (HasOldOrNext c.args.held.now.slot (super_of c.args.held.now.sb)) time here.2 laid.2,
    )

pub returns-in-Done-clause-err : goal.returns-in-Done-clause-err
returns-in-Done-clause-err g c = λ unfit x cached st. c.publish_made.ensures.err unfit x cached (done_of _ c.in_ok-progress.progress c.in-Done.is c.in_ok-progress.ensures.ok x cached st)

pub returns-in-Done-clause-time : goal.returns-in-Done-clause-time
returns-in-Done-clause-time g c =
    let here = time_here g (goal.at.returns-in-Done-clause-time g c).After-slice_open in (
      passes_trans here.0 c.publish_made.ensures.time.0,
      λ f h was now b of.
          let mid = still_told (g.D.Disk.view c.args.disk.now) (g.D.Disk.view c.slice_open.new.disk) f here.0 was in
          keeps_trans b f mid.0 h (here.1 f mid.0 was mid.1 b of) (c.publish_made.ensures.time.1 mid.0 h mid.1 now b of),
    )

pub returns-in-Done-clause-cause : goal.returns-in-Done-clause-cause
returns-in-Done-clause-cause g c = subst (λ (n : ℕ). HasCause Device n (g.D.Disk.faults c.publish_made.new.disk) c.publish_made.result) c.in_ok-progress.ensures.cause.ok c.publish_made.ensures.cause

pub returns-in-Done-clause-damaged : goal.returns-in-Done-clause-damaged
returns-in-Done-clause-damaged g c = λ b torn. absurd (c.publish_made.ensures.damaged b torn)
