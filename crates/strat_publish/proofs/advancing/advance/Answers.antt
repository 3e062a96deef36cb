use Rattle.std.proofs.Common.{◌≤◌, ◌+◌, ℕ, inr, List, [], ◌∷◌, length, Option, refl, sym, ap, ◌∙◌, subst, arith}
use Rattle.std.specs.Prelude.{IfSome, option_map}
use Rattle.strat_array.specs.Kept.{Blocks}
use Rattle.strat_base.proofs.ResultFacts.{err_of, on_ok_then}
use Rattle.strat_base.specs.declared.descriptors.LevelDesc.{LevelDesc}
use Rattle.def_crash.proofs.MomentLemmas.{reads_refl}
use Rattle.def_crash.specs.Trail.{Trail}
use Rattle.strat_gate.specs.SuperView.{super_of}
use Rattle.strat_promote.proofs.ObstacleLemmas.{short_fit}
use Rattle.strat_promote.specs.Job.{arrays_to, blocks_listed}
use Rattle.strat_promote.specs.Promotions.{ReadsOf, target_of}
use Rattle.def_meaning.specs.StateTable.{table_of}
use Rattle.def_publish.specs.Contents.{Contents, contents_state}
use Rattle.def_publish.specs.Occupied.{arrays_in}
use Rattle.def_publish.specs.Standing.{ShowsTable}
use Rattle.def_slice.specs.Budget.{KeepsToBudget, SliceNumbers}
use Rattle.def_slice.specs.Opened.{AreNumbersOf, slice_numbers}
use Rattle.def_state.specs.State.{IsPaid}
use Rattle.strat_cursor.specs.Looking.{arrays_there}
use Rattle.strat_memory.proofs.OnDiskLemmas.{unread}
use Rattle.strat_memory.specs.Memory.{Memory, IsReadyFrom}
use Rattle.strat_memory.specs.Held.{IsConsistent, IsOnDisk, IsOpenAt, MayGoOnWith, StandsWith, arrays_held}
use Rattle.strat_memory.specs.Paying.{ArePaidSince}
use Rattle.strat_memory.specs.RecoveredFields.{held_of, empty_cache, open_of}
use Rattle.strat_memory.specs.declared.open_store.OpenStore.{OpenStore}
use Rattle.strat_memory.specs.declared.open_store.Promoting.{Promoting}
use Rattle.strat_publish.proofs.AdvancingLemmas.{found_all, kept_parents, ok_or_short, on_err_then, read_open, ready_leads, stands_reads, taken_open}
use Rattle.strat_publish.proofs.CountingLemmas.{paid_beside, super_beside}
use Rattle.strat_publish.proofs.LaidLemmas.{kept_on}
use Rattle.strat_publish.proofs.ObstacleLemmas.{on_err, short_block, short_cause}
use Rattle.strat_publish.proofs.RoomLemmas.{chain_short}
use Rattle.strat_publish.proofs.SettledLemmas.{agree_once, agree_ready, consistent_ready, going_ready, none_damaged, open_ready, stands_ready, still_ready, trail_beside}
use Rattle.strat_publish.proofs.SettlingLemmas.{chain_numbered, listed_left, unwritten}
use Rattle.strat_publish.proofs.WholeLemmas.{arrays_few}
use Rattle.strat_publish.specs.Advancing.{FillsLevel}
use Rattle.strat_publish.specs.Promoting.{StandsOpenWith, leads_in_memory}
use Rattle.strat_publish.specs.Settling.{HaveOldOrNext}
use Rattle.strat_publish.proofs.advancing.advance.Given.{Over}
use Rattle.strat_publish.proofs.advancing.advance.Goals.{After-seal_for_next, In_ok-promoting}
use Rattle.strat_publish.proofs.advancing.advance.Goals as goal

-- the store with memory ready, whose promotion was taken out

abbrev sealed_here : (g : Over) → After-seal_for_next g → OpenStore
sealed_here g c = record c.args.held.now { promoting = c.take-taken.new.self; memory = c.seal_for_next.new.memory }

whole_here : (g : Over) (c : After-seal_for_next g) (cached : Blocks) → IsConsistent (held_of (sealed_here g c) cached)
whole_here g c cached =
    consistent_ready (held_of c.args.held.now cached) c.seal_for_next.new.memory (option_map open_of c.take-taken.new.self) (ap (option_map open_of) c.take-taken.ensures.after) c.seal_for_next.ensures.same c.requires.kept.1 (c.requires.kept.0 cached)

stands_here : (g : Over) (c : After-seal_for_next g) (x : Contents) (cached : Blocks) → StandsWith (g.D.Disk.view c.args.disk.now) (held_of c.args.held.now cached) x → StandsWith (g.D.Disk.view c.args.disk.now) (held_of (sealed_here g c) cached) x
stands_here g c x cached stands =
    stands_ready (g.D.Disk.view c.args.disk.now) (held_of c.args.held.now cached) x c.seal_for_next.new.memory (option_map open_of c.take-taken.new.self) (ap (option_map open_of) c.take-taken.ensures.after) stands

trail_here : (g : Over) (c : After-seal_for_next g) (x : Contents) (cached : Blocks) → StandsWith (g.D.Disk.view c.args.disk.now) (held_of c.args.held.now cached) x
    → Trail ShowsTable (g.D.Disk.view c.args.disk.now) (g.D.Disk.view c.args.disk.now).moment (table_of (contents_state x) ∷ []) 0
    × (IsPaid (contents_state x) → ArePaidSince (g.D.Disk.view c.args.disk.now) (g.D.Disk.view c.args.disk.now).moment)
    × HaveOldOrNext (g.D.Disk.view c.args.disk.now) (g.D.Disk.view c.args.disk.now).moment c.args.held.now.slot (super_of c.args.held.now.sb)
trail_here g c x cached stands =
    let v = g.D.Disk.view c.args.disk.now in
    let still = unwritten v (held_of c.args.held.now cached) in (
      trail_beside v v (held_of c.args.held.now cached) x stands still,
      λ paid. paid_beside v v (held_of c.args.held.now cached) x stands still paid,
      super_beside v v (held_of c.args.held.now cached) x stands still,
    )

on_here : (g : Over) (c : After-seal_for_next g) (cached : Blocks) → IsOnDisk (g.D.Disk.view c.args.disk.now) (held_of c.args.held.now cached) → IsOnDisk (g.D.Disk.view c.args.disk.now) (held_of (sealed_here g c) cached)
on_here g c cached on =
    kept_on (g.D.Disk.view c.args.disk.now) (held_of c.args.held.now cached) (held_of (sealed_here g c) cached) (record { slot = refl; sb = refl; chained = refl; levels = refl; filters = refl })
    (λ f now. unread f (held_of (sealed_here g c) cached) (ap (option_map open_of) c.take-taken.ensures.after)) on

-- the promotion that it then has is open beside it
opened_here : (g : Over) (c : In_ok-promoting g) (x : Contents) (cached : Blocks) → StandsWith (g.D.Disk.view c.args.disk.now) (held_of c.args.held.now cached) x
    → StandsOpenWith (g.D.Disk.view c.args.disk.now) (held_of (record c.args.held.now { promoting = c.take-taken.new.self; memory = c.seal_for_next.new.memory }) cached) x (open_of c.in_ok-promoting.promoting)
opened_here g c x cached stands =
    let v = g.D.Disk.view c.args.disk.now in
    let s = held_of c.args.held.now cached in
    let m = c.seal_for_next.new.memory in
    let f = stands.stands.content in
    let over = open_ready f s x (length c.args.held.now.journal.list) m (option_map open_of c.take-taken.new.self) c.seal_for_next.ensures.same stands.open_over in
    let here : IfSome (option_map open_of c.take-taken.result) (IsOpenAt f (held_of (record c.args.held.now { promoting = c.take-taken.new.self; memory = c.seal_for_next.new.memory }) cached) x (length c.args.held.now.journal.list)) =
    subst (λ (o : Option Promoting). IfSome (option_map open_of o) (IsOpenAt f (held_of (record c.args.held.now { promoting = c.take-taken.new.self; memory = c.seal_for_next.new.memory }) cached) x (length c.args.held.now.journal.list)))
    (sym c.take-taken.ensures.value) over in
    taken_open v s x m (option_map open_of c.take-taken.new.self) (ap (option_map open_of) c.take-taken.ensures.after) stands (open_of c.in_ok-promoting.promoting)
    (c.in_ok-promoting.ensures.ok f x cached (stands.stands.reads f stands.stands.left) stands.stands.sound stands.held (chain_short v s x (c.requires.kept.0 cached) stands) here)

pub seal_for_next-requires : goal.seal_for_next-requires
seal_for_next-requires g c =
    let whole = c.requires.kept.0 (empty_cache 0) in
    let few = arrays_few (held_of c.args.held.now (empty_cache 0)) whole in
    let same = ap (λ (ls : List LevelDesc). length (arrays_in ls)) c.as_slice.ensures.ok in
    record { fits = (whole.lawful.mem_least, whole.lawful.mem_most); len = omega (arith, few, same) }

pub open_now-requires-clause-kept : goal.open_now-requires-clause-kept
open_now-requires-clause-kept g c = λ cached. (
  whole_here g (goal.at.open_now-requires-clause-kept g c).After-seal_for_next cached,
  subst (λ (o : Option Promoting). IfSome (option_map open_of o) (MayGoOnWith (held_of (record c.args.held.now { promoting = c.take-taken.new.self; memory = c.seal_for_next.new.memory }) cached))) (sym c.take-taken.ensures.value)
      (going_ready (held_of c.args.held.now cached) c.seal_for_next.new.memory (option_map open_of c.take-taken.new.self) c.seal_for_next.ensures.same (c.requires.kept.0 cached).going),
)

pub open_now-requires-clause-found : goal.open_now-requires-clause-found
open_now-requires-clause-found g c = c.in_ok-seal_for_next.ensures.ok.0

pub go_on-requires : goal.go_on-requires
go_on-requires g c = record {
  kept = (
    λ cached. (whole_here g (goal.at.go_on-requires g c).After-seal_for_next cached, c.in_ok-promoting.ensures.kept cached),
    c.take-taken.ensures.after,
    c.requires.kept.1,
    subst (λ (ls : List LevelDesc). length c.seal_for_next.new.memory.cursors.retired + length (arrays_in ls) ≤ c.seal_for_next.new.memory.cursors.room) c.as_slice.ensures.ok c.in_ok-seal_for_next.ensures.ok.1,
  );
}

-- no memory for the seal

pub returns-in_err-seal_for_next-clause-trail : goal.returns-in_err-seal_for_next-clause-trail
returns-in_err-seal_for_next-clause-trail g c = trail_here g (goal.at.returns-in_err-seal_for_next-clause-trail g c).After-seal_for_next

pub returns-in_err-seal_for_next-clause-kept : goal.returns-in_err-seal_for_next-clause-kept
returns-in_err-seal_for_next-clause-kept g c = (λ short cached. whole_here g (goal.at.returns-in_err-seal_for_next-clause-kept g c).After-seal_for_next cached, λ short x cached stands. stands_here g (goal.at.returns-in_err-seal_for_next-clause-kept g c).After-seal_for_next x cached stands)

pub returns-in_err-seal_for_next-clause-err : goal.returns-in_err-seal_for_next-clause-err
returns-in_err-seal_for_next-clause-err g c = λ unfit. absurd (short_fit c.from_residual.result c.from_residual.ensures.1 unfit)

pub returns-in_err-seal_for_next-clause-disk : goal.returns-in_err-seal_for_next-clause-disk
returns-in_err-seal_for_next-clause-disk g c = λ other cached on. on_here g (goal.at.returns-in_err-seal_for_next-clause-disk g c).After-seal_for_next cached on

pub returns-in_err-seal_for_next-clause-same : goal.returns-in_err-seal_for_next-clause-same
returns-in_err-seal_for_next-clause-same g c =
    let still = still_ready c.args.held.now.sb.mem c.args.held.now.memory c.seal_for_next.new.memory c.seal_for_next.new.memory refl c.seal_for_next.ensures.same in (
      refl,
      still.0,
      λ short. (refl, c.seal_for_next.ensures.same),
      on_err c.from_residual.result _ (c.take-taken.ensures.after, λ cached. (record { slot = refl; sb = refl; chained = refl; levels = refl; filters = refl }, still.1)),
    )

pub returns-in_err-seal_for_next-clause-time : goal.returns-in_err-seal_for_next-clause-time
returns-in_err-seal_for_next-clause-time g c = (
  (reads_refl (g.D.Disk.view c.args.disk.now)).time,
  λ f h was now. agree_once (g.D.Disk.view c.args.disk.now) f h (blocks_listed (arrays_held c.args.held.now.memory c.args.held.now.published.levels)) was now,
)

-- no memory for the beginning, or a block stands twice

pub returns-in_err-promoting-clause-trail : goal.returns-in_err-promoting-clause-trail
returns-in_err-promoting-clause-trail g c = trail_here g (goal.at.returns-in_err-promoting-clause-trail g c).After-seal_for_next

pub returns-in_err-promoting-clause-kept : goal.returns-in_err-promoting-clause-kept
returns-in_err-promoting-clause-kept g c = (λ short cached. whole_here g (goal.at.returns-in_err-promoting-clause-kept g c).After-seal_for_next cached, λ short x cached stands. stands_here g (goal.at.returns-in_err-promoting-clause-kept g c).After-seal_for_next x cached stands)

pub returns-in_err-promoting-clause-err : goal.returns-in_err-promoting-clause-err
returns-in_err-promoting-clause-err g c = λ unfit x cached stands.
    c.in_err-promoting.ensures.err (err_of c.from_residual-in_err-promoting.result _ _ c.from_residual-in_err-promoting.ensures.1 unfit) (chain_numbered (g.D.Disk.view c.args.disk.now) (held_of c.args.held.now cached) x (c.requires.kept.0 cached) stands)

pub returns-in_err-promoting-clause-disk : goal.returns-in_err-promoting-clause-disk
returns-in_err-promoting-clause-disk g c = λ other cached on. on_here g (goal.at.returns-in_err-promoting-clause-disk g c).After-seal_for_next cached on

pub returns-in_err-promoting-clause-same : goal.returns-in_err-promoting-clause-same
returns-in_err-promoting-clause-same g c =
    let still = still_ready c.args.held.now.sb.mem c.args.held.now.memory c.seal_for_next.new.memory c.seal_for_next.new.memory refl c.seal_for_next.ensures.same in (
      refl,
      still.0,
      λ short. (refl, c.seal_for_next.ensures.same),
      on_err c.from_residual-in_err-promoting.result _ (c.take-taken.ensures.after, λ cached. (record { slot = refl; sb = refl; chained = refl; levels = refl; filters = refl }, still.1)),
    )

pub returns-in_err-promoting-clause-time : goal.returns-in_err-promoting-clause-time
returns-in_err-promoting-clause-time g c = (
  (reads_refl (g.D.Disk.view c.args.disk.now)).time,
  λ f h was now. agree_once (g.D.Disk.view c.args.disk.now) f h (blocks_listed (arrays_held c.args.held.now.memory c.args.held.now.published.levels)) was now,
)

pub returns-in_err-promoting-clause-cause : goal.returns-in_err-promoting-clause-cause
returns-in_err-promoting-clause-cause g c = short_cause c.from_residual-in_err-promoting.result _ c.from_residual-in_err-promoting.ensures.1 c.in_err-promoting.ensures.cause _ _ refl

pub returns-in_err-promoting-clause-damaged : goal.returns-in_err-promoting-clause-damaged
returns-in_err-promoting-clause-damaged g c = λ b bad. absurd (short_block c.from_residual-in_err-promoting.result _ c.from_residual-in_err-promoting.ensures.1 c.in_err-promoting.ensures.cause b bad)

-- a slice was done

pub returns-clause-ok : goal.returns-clause-ok
returns-clause-ok g c = on_ok_then c.go_on.result c.go_on.ensures.ok (λ all x cached stands. all x cached (opened_here g (goal.at.returns-clause-ok g c).In_ok-promoting x cached stands))

pub returns-clause-budget : goal.returns-clause-budget
returns-clause-budget g c = on_ok_then c.go_on.result c.go_on.ensures.budget (λ all f x cached told stands n most numbers few.
    let mem = c.args.held.now.sb.mem in
    let fill = length c.args.held.now.journal.list in
    let ready = ready_leads mem c.args.held.now.memory c.seal_for_next.new.memory c.args.held.now.published.levels c.seal_for_next.ensures.same in
    let leads = leads_in_memory c.seal_for_next.new.memory c.args.held.now.published.levels in
    let same =
    c.in_ok-promoting.ensures.found.0 n (subst (λ (o : Option Promoting). AreNumbersOf mem fill leads (option_map open_of o) n) (sym c.take-taken.ensures.value)
    (subst (λ (ls : List ℕ). AreNumbersOf mem fill ls (option_map open_of c.args.held.now.promoting) n) (sym ready) numbers)) in
    let target = target_of c.in_ok-promoting.promoting.promotion in
    let fills = subst (λ (o : Option Promoting). FillsLevel mem leads (option_map open_of o) target) c.take-taken.ensures.value c.in_ok-promoting.ensures.found.1 in
    let here = subst (λ (ls : List ℕ). FillsLevel mem ls (option_map open_of c.args.held.now.promoting) target) ready fills in
    subst (λ (k : SliceNumbers). KeepsToBudget k most (option_map slice_numbers (held_of c.go_on.new.held cached).promoting)) (sym same)
    (all f x cached most told (opened_here g (goal.at.returns-clause-budget g c).In_ok-promoting x cached stands) (few target here)))

pub returns-clause-found : goal.returns-clause-found
returns-clause-found g c = on_ok_then c.go_on.result c.go_on.ensures.found (λ all cached.
    found_all (held_of c.args.held.now cached) (held_of c.go_on.new.held cached) c.seal_for_next.new.memory (option_map open_of c.take-taken.new.self) (c.requires.kept.0 cached) c.requires.kept.1 c.seal_for_next.ensures.same c.in_ok-seal_for_next.ensures.ok.0 (all cached))

pub returns-clause-disk : goal.returns-clause-disk
returns-clause-disk g c = λ other cached on.
    c.go_on.ensures.disk other cached (on_here g (goal.at.returns-clause-disk g c).After-seal_for_next cached on) (λ f now.
    c.in_ok-promoting.ensures.reads f (subst (λ (o : Option Promoting). IfSome (option_map open_of o) (λ p. ReadsOf f (arrays_to c.args.held.now.published.levels (target_of p.promotion)) p.promotion)) (sym c.take-taken.ensures.value)
    (read_open (g.D.Disk.view c.args.disk.now) (held_of c.args.held.now cached) on f now)))

pub returns-clause-trail : goal.returns-clause-trail
returns-clause-trail g c = λ x cached stands. c.go_on.ensures.trail x cached (opened_here g (goal.at.returns-clause-trail g c).In_ok-promoting x cached stands)

pub returns-clause-kept : goal.returns-clause-kept
returns-clause-kept g c =
    let at = (goal.at.returns-clause-kept g c).After-seal_for_next in (
      ok_or_short c.go_on.result c.go_on.ensures.kept.0 (λ short cached. subst (λ (h : OpenStore). IsConsistent (held_of h cached)) (sym (c.go_on.ensures.same.1 short)) (whole_here g at cached)),
      λ short x cached stands. c.go_on.ensures.kept.1 short x cached (stands_here g at x cached stands),
    )

pub returns-clause-err : goal.returns-clause-err
returns-clause-err g c = λ unfit x cached stands. c.go_on.ensures.err unfit x cached (opened_here g (goal.at.returns-clause-err g c).In_ok-promoting x cached stands)

pub returns-clause-time : goal.returns-clause-time
returns-clause-time g c = (
  c.go_on.ensures.time.0,
  λ f h was now. agree_ready c.args.held.now.sb.mem c.args.held.now.memory c.seal_for_next.new.memory c.args.held.now.published.levels f h c.seal_for_next.ensures.same (c.go_on.ensures.time.1 f h was now),
)

pub returns-clause-same : goal.returns-clause-same
returns-clause-same g c =
    let still = still_ready c.args.held.now.sb.mem c.args.held.now.memory c.seal_for_next.new.memory c.seal_for_next.new.memory refl c.seal_for_next.ensures.same in
    let s = held_of (sealed_here g (goal.at.returns-clause-same g c).After-seal_for_next) (empty_cache 0) in
    let t = held_of c.go_on.new.held (empty_cache 0) in
    let told = c.go_on.ensures.same in (
      told.0,
      kept_parents c.go_on.result s t (on_ok_then c.go_on.result c.go_on.ensures.found (λ all. all (empty_cache 0))) (on_err_then c.go_on.result told.2 (λ e. e.0)) ∙ still.0,
      λ short. (
        ap (λ (h : OpenStore). h.journal) (told.1 short),
        subst (λ (k : Memory). IsReadyFrom c.args.held.now.sb.mem c.args.held.now.memory k) (sym (ap (λ (h : OpenStore). h.memory) (told.1 short))) c.seal_for_next.ensures.same,
      ),
      on_err_then c.go_on.result told.2 (λ e. (
        e.1,
        λ cached.
            let kept = e.2 cached in (
              record { slot = kept.slot; sb = kept.sb; chained = kept.chained; levels = kept.levels; filters = kept.filters },
              (still_ready c.args.held.now.sb.mem c.args.held.now.memory c.seal_for_next.new.memory c.go_on.new.held.memory e.0 c.seal_for_next.ensures.same).1,
            ),
      )),
    )

pub returns-clause-damaged : goal.returns-clause-damaged
returns-clause-damaged g c = λ b torn.
    let told = c.go_on.ensures.damaged b torn in
    let listed = listed_left (arrays_there c.args.held.now.published.levels) c.args.held.now.memory.cursors.retired b told.0 in (
      listed,
      λ cached reads. record {
        listed = listed;
        bad = λ f now.
            inr (told.1 f now (c.in_ok-promoting.ensures.reads f
            (subst (λ (o : Option Promoting). IfSome (option_map open_of o) (λ p. ReadsOf f (arrays_to c.args.held.now.published.levels (target_of p.promotion)) p.promotion)) (sym c.take-taken.ensures.value) (reads f now))));
      },
      λ x cached stands.
          let at = (goal.at.returns-clause-damaged g c).In_ok-promoting in
          none_damaged (g.D.Disk.view c.args.disk.now) (held_of c.args.held.now cached) x b (c.requires.kept.0 cached) stands (λ f now.
          told.1 f now (stands_reads (g.D.Disk.view c.args.disk.now) (held_of (record c.args.held.now { promoting = c.take-taken.new.self; memory = c.seal_for_next.new.memory }) cached) x (open_of c.in_ok-promoting.promoting) (opened_here g at x cached stands) f now)),
    )
