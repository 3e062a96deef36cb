use Rattle.std.proofs.Common.{Bool, true, false, sym, subst, ◌∙◌}
use Rattle.strat_cursor.specs.Looking.{AreOfOldArrays}
use Rattle.strat_memory.specs.Admitting.{chained_of}
use Rattle.strat_memory.specs.RecoveredFields.{held_of}
use Rattle.strat_memory.specs.declared.open_store.OpenStore.{OpenStore}
use Rattle.strat_model.specs.declared.replies.Refusal.TheVariants as why
use Rattle.strat_model.specs.declared.replies.Reply.TheVariants as reply
use Rattle.strat_publish.specs.Settling.{LeavesPublished}
use Rattle.strat_store.proofs.GoingLemmas.{stands_going}
use Rattle.strat_store.proofs.ApplyLemmas.{spent_at}
use Rattle.strat_store.proofs.LoggingLemmas.{batch_stored}
use Rattle.strat_store.proofs.StagingLemmas.{ever_joined, fits_none, joins_whole, replies_none}
use Rattle.strat_store.proofs.store.Store.commit.Goals as goal

pub append_staged-requires-clause-kept : goal.append_staged-requires-clause-kept
append_staged-requires-clause-kept g c =
    let going = rw (← c.self.view_is) at c.requires.kept in
    (c.self.invariant going).0

pub append_staged-requires-clause-room : goal.append_staged-requires-clause-room
append_staged-requires-clause-room g c =
    let going = rw (← c.self.view_is) at c.requires.kept in
    (c.self.invariant going).3

pub returns-in_default-clause-trail : goal.returns-in_default-clause-trail
returns-in_default-clause-trail g c =
    rw (← c.self.view_is) (λ x stands.
    let trail = c.in_default.ensures.trail x c.self.inside.cache (stands_going (g.D.Disk.view c.args.disk.now) c.self.inside.held c.self.inside.cache c.self.inside.spent x stands) in
    (trail, batch_stored (g.D.Disk.view c.append_staged.new.disk) (g.D.Disk.view c.args.disk.now).moment _ _ trail))

pub returns-in_default-clause-same : goal.returns-in_default-clause-same
returns-in_default-clause-same g c =
    let going = rw (← c.self.view_is) at c.requires.kept in
    let s = held_of c.self.inside.held c.self.inside.cache in
    let t = held_of c.append_staged.new.held c.self.inside.cache in
    rw (← c.self.view_is)
    (subst (λ (b : Bool). LeavesPublished (g.D.Disk.view c.args.disk.now) (g.D.Disk.view c.append_staged.new.disk) (record s { spent = b }) false (reply.Refused why.DeviceFault) (record t { spent = true })) (sym going)
    (c.in_default.ensures.same c.self.inside.cache))

pub invariant_of-self-2 : goal.invariant_of-self-2
invariant_of-self-2 g c calm =
    let going = rw (← c.self.view_is) at c.requires.kept in
    let whole = c.self.invariant going in
    let kept = joins_whole c.self.inside.held c.append_staged.new.held c.in-Ok.ensures.ok whole.0 in (
      ever_joined c.append_staged.new.held kept,
      subst (λ (o : OpenStore). AreOfOldArrays (chained_of o.published).manifest.next_array c.self.inside.cache) (sym c.in-Ok.ensures.ok) whole.1,
      c.clear.ensures.ok ∙ sym (replies_none (held_of c.append_staged.new.held c.self.inside.cache) (kept c.self.inside.cache).log.batch),
      fits_none c.append_staged.new.held.journal (kept c.self.inside.cache).log.batch,
    )

pub returns-clause-kept : goal.returns-clause-kept
returns-clause-kept g c =
    let going = rw (← c.self.view_is) at c.requires.kept in
    let whole = c.self.invariant going in (
      joins_whole c.self.inside.held c.append_staged.new.held c.in-Ok.ensures.ok whole.0 c.self.inside.cache,
      subst (λ (o : OpenStore). AreOfOldArrays (chained_of o.published).manifest.next_array c.self.inside.cache) (sym c.in-Ok.ensures.ok) whole.1,
    )

pub returns-clause-state : goal.returns-clause-state
returns-clause-state g c =
    rw (← c.self.view_is) (λ x rows at.
    c.in-Ok.ensures.state x rows c.self.inside.cache (spent_at (g.D.Disk.view c.args.disk.now) (held_of c.self.inside.held c.self.inside.cache) x rows c.self.inside.spent at))

pub returns-clause-trail : goal.returns-clause-trail
returns-clause-trail g c =
    rw (← c.self.view_is) (λ x stands.
    let trail = c.in-Ok.ensures.trail x c.self.inside.cache (stands_going (g.D.Disk.view c.args.disk.now) c.self.inside.held c.self.inside.cache c.self.inside.spent x stands) in
    (trail, batch_stored (g.D.Disk.view c.append_staged.new.disk) (g.D.Disk.view c.args.disk.now).moment _ _ trail))

pub returns-clause-same : goal.returns-clause-same
returns-clause-same g c =
    let going = rw (← c.self.view_is) at c.requires.kept in
    let s = held_of c.self.inside.held c.self.inside.cache in
    let t = held_of c.append_staged.new.held c.self.inside.cache in
    rw (← c.self.view_is)
    (subst (λ (b : Bool). LeavesPublished (g.D.Disk.view c.args.disk.now) (g.D.Disk.view c.append_staged.new.disk) (record s { spent = b }) true reply.Done (record t { spent = false })) (sym going)
    (c.in-Ok.ensures.same c.self.inside.cache))
