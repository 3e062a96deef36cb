use Rattle.std.proofs.Common.{Bool, sym, subst, ◌∙◌}
use Rattle.strat_model.specs.Answer.{as_told}
use Rattle.strat_model.specs.Command.{request_of}
use Rattle.strat_store.specs.Cursoring.{IsAppliedAt}
use Rattle.strat_memory.specs.RecoveredFields.{held_of}
use Rattle.strat_store.proofs.GoingLemmas.{spent_slices, stands_going}
use Rattle.strat_store.proofs.ApplyLemmas.{old_after, spent_at, spent_consistent, spent_reads, spent_tells}
use Rattle.strat_store.proofs.LeavingLemmas.{on_spent}
use Rattle.strat_memory.proofs.PayingLemmas.{stored_since}
use Rattle.strat_store.proofs.StagingLemmas.{as_ever, ever_joined, fits_none, replies_none}
use Rattle.strat_store.proofs.store.Store.apply.Goals as goal

pub answer-told-requires-clause-kept : goal.answer-told-requires-clause-kept
answer-told-requires-clause-kept g c =
    let going = rw (← c.self.view_is) at c.requires.kept in
    as_ever c.self.inside.held going.1 (c.self.invariant going.0).0

pub invariant_of-self : goal.invariant_of-self
invariant_of-self g c calm =
    let going = rw (← c.self.view_is) at c.requires.kept in
    let whole = c.self.invariant going.0 in
    let ever = as_ever c.self.inside.held going.1 whole.0 in
    let kept = c.answer-told.ensures.kept (sym c.is_fault-self-inside.ensures.ok ∙ calm) in
    let none = (kept c.answer-told.new.cache).log.batch in (
      ever_joined c.answer-told.new.held kept,
      old_after _ _ _ _ (ever c.self.inside.cache) whole.1 c.answer-told.ensures.same.0 c.answer-told.ensures.same.1,
      whole.2 ∙ replies_none (held_of c.self.inside.held c.self.inside.cache) going.1 ∙ sym (replies_none (held_of c.answer-told.new.held c.answer-told.new.cache) none),
      fits_none c.answer-told.new.held.journal none,
    )

pub returns-clause-kept : goal.returns-clause-kept
returns-clause-kept g c =
    let going = rw (← c.self.view_is) at c.requires.kept in
    let whole = c.self.invariant going.0 in
    let ever = as_ever c.self.inside.held going.1 whole.0 in (
      c.is_fault-self-inside.ensures.ok,
      λ calm. (
        spent_consistent (held_of c.answer-told.new.held c.answer-told.new.cache) c.is_fault-self-inside.result
            (c.answer-told.ensures.kept (sym c.is_fault-self-inside.ensures.ok ∙ calm) c.answer-told.new.cache),
        old_after _ _ _ _ (ever c.self.inside.cache) whole.1 c.answer-told.ensures.same.0 c.answer-told.ensures.same.1,
      ),
    )

pub returns-clause-damaged : goal.returns-clause-damaged
returns-clause-damaged g c =
    let s = held_of c.self.inside.held c.self.inside.cache in
    let v = g.D.Disk.view c.args.disk.now in
    rw (← c.self.view_is) (λ b bad.
    let named = c.answer-told.ensures.damaged b bad in
    (named.0, λ on. named.1 (on_spent v (record s { spent = c.self.inside.spent }) s.spent on)))

pub returns-clause-ok : goal.returns-clause-ok
returns-clause-ok g c =
    let going = rw (← c.self.view_is) at c.requires.kept in
    let s = held_of c.self.inside.held c.self.inside.cache in
    let t = held_of c.answer-told.new.held c.answer-told.new.cache in
    let now = g.D.Disk.view c.answer-told.new.disk in
    let asked = request_of c.args.command.now in
    let told = as_told c.answer-told.result c.answer-told.new.out in
    rw (← c.self.view_is) (λ x rows at.
    subst (λ (b : Bool). IsAppliedAt now (record s { spent = b }) x rows asked told (record t { spent = c.is_fault-self-inside.result })) (sym going.0)
    (subst (λ (b : Bool). IsAppliedAt now s x rows asked told (record t { spent = b })) (sym c.is_fault-self-inside.ensures.ok)
    (c.answer-told.ensures.ok x rows (spent_at (g.D.Disk.view c.args.disk.now) s x rows c.self.inside.spent at))))

pub returns-clause-found : goal.returns-clause-found
returns-clause-found g c =
    let going = rw (← c.self.view_is) at c.requires.kept in
    let whole = c.self.invariant going.0 in
    rw (← c.self.view_is) (λ f exposed calm. spent_tells _ _ _ _ _ (c.answer-told.ensures.found whole.1 f exposed calm))

pub returns-clause-trail : goal.returns-clause-trail
returns-clause-trail g c =
    rw (← c.self.view_is) (λ x stands.
    let trail = c.answer-told.ensures.trail x (stands_going (g.D.Disk.view c.args.disk.now) c.self.inside.held c.self.inside.cache c.self.inside.spent x stands) in
    (trail, stored_since (g.D.Disk.view c.answer-told.new.disk) (g.D.Disk.view c.args.disk.now).moment _ _ trail))

pub returns-clause-reads : goal.returns-clause-reads
returns-clause-reads g c =
    let before = g.D.Disk.reads c.args.disk.now in
    let now = g.D.Disk.reads c.answer-told.new.disk in
    rw (← c.self.view_is) (spent_reads (held_of c.self.inside.held c.self.inside.cache) c.self.inside.spent (request_of c.args.command.now) before now c.answer-told.ensures.same.3)

pub returns-clause-budget : goal.returns-clause-budget
returns-clause-budget g c =
    rw (← c.self.view_is) (λ done full f x exposed stands.
    spent_slices f (held_of c.self.inside.held c.self.inside.cache) x c.self.inside.spent _
    (c.answer-told.ensures.budget done full f x exposed (stands_going (g.D.Disk.view c.args.disk.now) c.self.inside.held c.self.inside.cache c.self.inside.spent x stands)))
