use Rattle.std.proofs.Common.{sym, ap, subst, ◌∙◌}
use Rattle.strat_model.specs.Answer.{as_told}
use Rattle.strat_model.specs.Request.{NextPairs}
use Rattle.strat_model.specs.declared.replies.Reply.{Reply}
use Rattle.strat_store.specs.Applying.{FailsAsTold, is_fault}
use Rattle.strat_store.specs.Cursoring.{IsAppliedAt, cursors_after, reply_of_next}
use Rattle.strat_memory.specs.Memory.{Memory}
use Rattle.strat_store.specs.Ranging.{HasPairs, TellsOfCursor}
use Rattle.strat_memory.specs.RecoveredFields.{held_of}
use Rattle.strat_store.specs.Applying.{held_after}
use Rattle.strat_store.proofs.CursoringLemmas.{cursor_told, nothing_told, page_applied, page_blames, page_fails, page_found, page_leaves, page_short, pairs_paged}
use Rattle.strat_store.proofs.KeepingLemmas.{consistent_after}
use Rattle.strat_store.proofs.cursors.reply_to_next_pairs.Goals as goal

pub returns-clause-ok : goal.returns-clause-ok
returns-clause-ok g c = λ x rows at.
    let s = held_of c.args.held.now c.args.cache.now in
    let after = record c.args.held.now { memory = c.next_pairs-told.new.self } in
    subst (λ (told : Reply). IsAppliedAt (g.D.Disk.view c.next_pairs-told.new.disk) s x rows (NextPairs c.args.number c.args.limit) (as_told told c.next_pairs-told.new.out) (held_after after c.next_pairs-told.new.cache told))
    (sym c.reply_of_next.ensures.ok)
    (page_applied (g.D.Disk.view c.args.disk.now) s x rows (c.requires.kept c.args.cache.now) at (g.D.Disk.view c.next_pairs-told.new.disk) c.next_pairs-told.new.cache c.next_pairs-told.ensures.same
    (g.met.D.Disk.leaves_content c.next_pairs-told.new.disk) c.args.number c.args.limit c.next_pairs-told.new.out c.next_pairs-told.result c.next_pairs-told.new.self
    c.next_pairs-told.ensures.ok c.next_pairs-told.ensures.state c.next_pairs-told.ensures.found c.next_pairs-told.ensures.err c.next_pairs-told.ensures.damaged)

pub returns-clause-damaged : goal.returns-clause-damaged
returns-clause-damaged g c = λ b told.
    page_blames (g.D.Disk.view c.args.disk.now).content c.args.held.now.memory c.args.held.now.published.levels c.next_pairs-told.result b (c.requires.kept c.args.cache.now).kept.named
    c.next_pairs-told.ensures.damaged (sym c.reply_of_next.ensures.ok ∙ told)

pub returns-clause-found : goal.returns-clause-found
returns-clause-found g c = λ f exposed calm.
    subst (λ (r : Reply). TellsOfCursor f (held_of c.args.held.now c.args.cache.now) c.args.number c.args.limit (as_told r c.next_pairs-told.new.out)) (sym c.reply_of_next.ensures.ok)
    (cursor_told f (g.D.Disk.view c.args.disk.now) (held_of c.args.held.now c.args.cache.now) c.args.number c.args.limit c.next_pairs-told.new.out c.next_pairs-told.result exposed
    (sym (ap is_fault c.reply_of_next.ensures.ok) ∙ calm) c.next_pairs-told.ensures.ok c.next_pairs-told.ensures.found (nothing_told _ _ c.next_pairs-told.result c.next_pairs-told.ensures.err))

pub returns-clause-state : goal.returns-clause-state
returns-clause-state g c =
    let is = page_leaves c.args.held.now.memory c.next_pairs-told.new.self c.args.held.now.published.levels c.args.number c.args.limit c.next_pairs-told.new.out c.next_pairs-told.result c.next_pairs-told.ensures.state c.next_pairs-told.ensures.err in
    ap (λ (m : Memory). record c.args.held.now { memory = m }) is
    ∙ ap (λ (r : Reply). record c.args.held.now { memory = record c.args.held.now.memory { cursors = cursors_after c.args.held.now.memory c.args.held.now.published.levels (NextPairs c.args.number c.args.limit) (as_told r c.next_pairs-told.new.out) } })
    (sym c.reply_of_next.ensures.ok)

pub returns-clause-kept : goal.returns-clause-kept
returns-clause-kept g c =
    consistent_after c.args.held.now c.next_pairs-told.new.self (NextPairs c.args.number c.args.limit) (as_told (reply_of_next c.next_pairs-told.result) c.next_pairs-told.new.out) c.requires.kept
    (page_leaves c.args.held.now.memory c.next_pairs-told.new.self c.args.held.now.published.levels c.args.number c.args.limit c.next_pairs-told.new.out c.next_pairs-told.result c.next_pairs-told.ensures.state c.next_pairs-told.ensures.err)

pub returns-clause-cause : goal.returns-clause-cause
returns-clause-cause g c = (
  subst (FailsAsTold (g.D.Disk.faults c.args.disk.now) (g.D.Disk.faults c.next_pairs-told.new.disk)) (sym c.reply_of_next.ensures.ok)
      (page_fails (g.D.Disk.faults c.args.disk.now) (g.D.Disk.faults c.next_pairs-told.new.disk) c.next_pairs-told.result c.next_pairs-told.ensures.cause),
  λ off. c.reply_of_next.ensures.ok ∙ ap reply_of_next (c.next_pairs-told.ensures.found.1 off),
)

pub returns-clause-len : goal.returns-clause-len
returns-clause-len g c = (
  λ found. page_found c.next_pairs-told.result (sym c.reply_of_next.ensures.ok ∙ found),
  λ short. page_short c.next_pairs-told.result (sym c.reply_of_next.ensures.ok ∙ short),
  subst (λ (r : Reply). HasPairs c.args.limit r c.next_pairs-told.new.out) (sym c.reply_of_next.ensures.ok)
      (pairs_paged c.next_pairs-told.result c.next_pairs-told.new.out c.args.limit c.next_pairs-told.ensures.len (nothing_told _ _ c.next_pairs-told.result c.next_pairs-told.ensures.err)),
)
