use Rattle.std.proofs.Common.{◌≡◌, ◌∙◌, ◌&&◌, Bool, Option, Some, None, refl, sym, ap, subst, true≢false}
use Rattle.std.proofs.lemmas.Bool.{and_parts}
use Rattle.strat_base.specs.Change.{Change}
use Rattle.def_crash.specs.Moments.{OnlyReads}
use Rattle.def_crash.proofs.MomentLemmas.{reads_refl}
use Rattle.strat_model.specs.Answer.{accepts, as_told, plain}
use Rattle.strat_model.specs.Command.{request_of}
use Rattle.strat_model.specs.Pairs.{Pairs}
use Rattle.strat_model.specs.Request.{Request}
use Rattle.strat_model.specs.Run.{is_change}
use Rattle.strat_store.specs.Applying.{FollowsStep, is_fault}
use Rattle.strat_store.specs.Cursoring.{IsAppliedAt, LeavesCursors, cursors_after}
use Rattle.strat_memory.specs.RecoveredFields.{held_of}
use Rattle.strat_store.specs.Applying.{held_after}
use Rattle.strat_store.proofs.AppliedLemmas.{change_applied}
use Rattle.strat_store.proofs.ApplyLemmas.{look_follows, look_no_change, pairs_wanted, reads_no_look, tells_from_wanted, tells_of_change, wanted_for}
use Rattle.strat_store.proofs.LeavingLemmas.{left_queried, leaves_wanted, untouched_by}
use Rattle.strat_store.proofs.QueryLemmas.{query_leaves}
use Rattle.strat_store.proofs.store.answer.Goals as goal

pub returns-in-Some-clause-ok : goal.returns-in-Some-clause-ok
returns-in-Some-clause-ok g c = λ x rows at.
    let now = g.D.Disk.view c.change.new.disk in
    let old = held_of c.args.held.now c.args.cache.now in
    let new = held_after c.change.new.held c.args.cache.now c.change.result in
    let leaves = c.change.ensures.disk c.args.cache.now in
    subst (λ (pairs : Pairs). IsAppliedAt now old x rows (request_of c.args.command.now) (as_told c.change.result pairs) new) (sym c.requires.room)
    (subst (λ (r : Request). IsAppliedAt now old x rows r (plain c.change.result) new) (wanted_for (request_of c.args.command.now) _ c.in-Some.ensures)
    (change_applied (g.D.Disk.view c.args.disk.now) now old new x rows _ (plain c.change.result) (accepts c.change.result) (c.requires.kept c.args.cache.now) at leaves.0 leaves.1 c.change.ensures.same.2 refl refl
    (c.change.ensures.ok x c.args.cache.now at.stands)))

pub returns-in-Some-clause-trail : goal.returns-in-Some-clause-trail
returns-in-Some-clause-trail g c = λ x w.
    let before = g.D.Disk.view c.args.disk.now in
    let now = g.D.Disk.view c.change.new.disk in
    subst (λ (r : Request). FollowsStep before now x r (plain c.change.result)) (wanted_for (request_of c.args.command.now) _ c.in-Some.ensures) (c.change.ensures.trail x c.args.cache.now w)

pub returns-in-Some-clause-len : goal.returns-in-Some-clause-len
returns-in-Some-clause-len g c = (
  pairs_wanted (request_of c.args.command.now) _ c.change.result c.args.out.now c.in-Some.ensures c.change.ensures.same.1 c.requires.room,
  c.change.ensures.same.0,
)

pub returns-in-None-clause-trail : goal.returns-in-None-clause-trail
returns-in-None-clause-trail g c = λ x w.
    look_follows (g.D.Disk.view c.args.disk.now) (g.D.Disk.view c.query.new.disk) (held_of c.args.held.now c.args.cache.now) x _ (as_told c.query.result c.query.new.out) c.in-None.ensures c.query.ensures.same.0.disk w

pub returns-in-Some-clause-cause : goal.returns-in-Some-clause-cause
returns-in-Some-clause-cause g c = (
  c.change.ensures.cause.0,
  tells_of_change (g.D.Disk.view c.args.disk.now) (held_of c.args.held.now c.args.cache.now) _ _ c.change.result c.in-Some.ensures (λ b bad. (c.change.ensures.damaged b bad).1) (λ short. (c.change.ensures.none.1 short).0),
  c.change.ensures.cause.1,
)

pub returns-in-None-clause-cause : goal.returns-in-None-clause-cause
returns-in-None-clause-cause g c = (c.query.ensures.cause.0, c.query.ensures.cause.1, c.query.ensures.same.0.disk.time)

pub returns-in-Some-clause-budget : goal.returns-in-Some-clause-budget
returns-in-Some-clause-budget g c = λ done full f x exposed stands.
    c.change.ensures.budget (and_parts (is_change (request_of c.args.command.now)) (accepts c.change.result) done).1 full f x c.args.cache.now exposed stands

pub returns-in-None-clause-budget : goal.returns-in-None-clause-budget
returns-in-None-clause-budget g c = λ done full f x exposed stands.
    absurd (true≢false (sym (and_parts (is_change (request_of c.args.command.now)) (accepts c.query.result) done).0 ∙ look_no_change (request_of c.args.command.now) c.in-None.ensures))

pub returns-in-Some-clause-damaged : goal.returns-in-Some-clause-damaged
returns-in-Some-clause-damaged g c = λ b bad.
    let named = (c.change.ensures.damaged b bad).0 in
    (named.0, named.1 c.args.cache.now)

pub returns-in-None-clause-damaged : goal.returns-in-None-clause-damaged
returns-in-None-clause-damaged g c = λ b bad. let named = c.query.ensures.damaged b bad in (named.listed, λ on. named)

pub returns-in-Some-clause-same : goal.returns-in-Some-clause-same
returns-in-Some-clause-same g c =
    let before = g.D.Disk.view c.args.disk.now in
    let old = held_of c.args.held.now c.args.cache.now in
    let new = held_after c.change.new.held c.args.cache.now c.change.result in
    let leaves = c.change.ensures.disk c.args.cache.now in (
      untouched_by before (g.D.Disk.view c.change.new.disk) (request_of c.args.command.now) _ c.args.held.now c.change.new.held c.args.cache.now c.change.result c.in-Some.ensures
          (λ q e. let one = c.change.ensures.err q e in (one.0, one.1, subst (λ (d : _). OnlyReads before (g.D.Disk.view d)) (sym one.2) (reads_refl before)))
          c.change.ensures.none.0 (λ short. (c.change.ensures.none.1 short).1 c.args.cache.now),
      leaves_wanted before (g.D.Disk.view c.change.new.disk) old new (request_of c.args.command.now) _ c.change.result c.in-Some.ensures leaves.0,
      subst (λ (pairs : Pairs). LeavesCursors old (request_of c.args.command.now) (as_told c.change.result pairs) new) (sym c.requires.room)
          (subst (λ (r : Request). LeavesCursors old r (plain c.change.result) new) (wanted_for (request_of c.args.command.now) _ c.in-Some.ensures) leaves.1),
      reads_no_look old (request_of c.args.command.now) _ _ _ c.in-Some.ensures,
    )

pub returns-in-None-clause-same : goal.returns-in-None-clause-same
returns-in-None-clause-same g c =
    let still = look_no_change (request_of c.args.command.now) c.in-None.ensures in
    let m = record c.args.held.now.memory { cursors = cursors_after c.args.held.now.memory c.args.held.now.published.levels (request_of c.args.command.now) (as_told c.query.result c.query.new.out) } in (
      record {
        looks = λ none. c.query.ensures.same.0;
        refused = λ d q asks e. absurd (let x : ◌≡◌ {A = Option Change} None (Some d) = sym c.in-None.ensures ∙ asks in cc);
        taken = λ d asks e. absurd (let x : ◌≡◌ {A = Option Change} None (Some d) = sym c.in-None.ensures ∙ asks in cc);
        short = λ d asks short. absurd (let x : ◌≡◌ {A = Option Change} None (Some d) = sym c.in-None.ensures ∙ asks in cc);
        cached = λ d asks. absurd (let x : ◌≡◌ {A = Option Change} None (Some d) = sym c.in-None.ensures ∙ asks in cc);
        calm = λ calm. c.query.ensures.same.0.disk;
      },
      left_queried (g.D.Disk.view c.args.disk.now) (g.D.Disk.view c.query.new.disk) c.args.held.now c.query.new.held m c.args.cache.now c.query.new.cache _ c.query.result (is_fault c.query.result) c.query.ensures.state
          (ap (λ (b : Bool). b && accepts c.query.result) still) c.query.ensures.same.0.disk,
      query_leaves c.args.held.now c.query.new.held c.args.cache.now c.query.new.cache (request_of c.args.command.now) (as_told c.query.result c.query.new.out) (is_fault c.query.result) c.in-None.ensures c.query.ensures.state,
      λ none. c.query.ensures.same.1,
    )

pub returns-in-Some-clause-found : goal.returns-in-Some-clause-found
returns-in-Some-clause-found g c = λ old f exposed calm. tells_from_wanted f (held_of c.args.held.now c.args.cache.now) (request_of c.args.command.now) _ _ c.in-Some.ensures
