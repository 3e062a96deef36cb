use Rattle.std.proofs.Common.{sym, ap, subst, ◌∙◌}
use Rattle.strat_model.specs.Answer.{plain}
use Rattle.strat_model.specs.Request.{OpenCursor}
use Rattle.strat_model.specs.declared.replies.Reply.{Reply}
use Rattle.strat_store.specs.Applying.{is_fault}
use Rattle.strat_store.specs.Cursoring.{cursors_after, reply_of_start}
use Rattle.strat_memory.specs.Memory.{Memory}
use Rattle.strat_store.specs.Ranging.{TellsOfOpening}
use Rattle.strat_memory.specs.RecoveredFields.{empty_cache, held_of}
use Rattle.strat_store.proofs.CursoringLemmas.{known_told, numbers, opening_told, start_calm, start_found, start_leaves, unknown_told}
use Rattle.strat_publish.proofs.WholeLemmas.{whole_read}
use Rattle.strat_store.proofs.KeepingLemmas.{consistent_after}
use Rattle.strat_store.proofs.cursors.reply_to_open_cursor.Goals as goal

pub returns-then-not-has-clause-found : goal.returns-then-not-has-clause-found
returns-then-not-has-clause-found c = λ f cached.
    unknown_told c.args.held.now.memory c.args.version (TellsOfOpening c.args.held.now.memory.cursors _) (sym c.has.ensures.ok ∙ c.if-not-has.true)

pub open_cursor-started-requires-clause-found : goal.open_cursor-started-requires-clause-found
open_cursor-started-requires-clause-found c = c.has.ensures.found c.if-not-has.false

pub open_cursor-started-requires-clause-kept : goal.open_cursor-started-requires-clause-kept
open_cursor-started-requires-clause-kept c = (whole_read (held_of c.args.held.now (empty_cache 0)) (c.requires.kept (empty_cache 0))).within

pub returns-clause-found : goal.returns-clause-found
returns-clause-found c = λ f cached.
    let told = opening_told c.args.held.now.memory.cursors c.open_cursor-started.result (numbers _ _ c.open_cursor-started.result c.open_cursor-started.ensures.ok) c.open_cursor-started.ensures.cause in
    known_told c.args.held.now.memory c.args.version _ _ (sym c.has.ensures.ok ∙ c.if-not-has.false)
    (subst (λ (r : Reply). TellsOfOpening c.args.held.now.memory.cursors (plain r)) (sym c.reply_of_start.ensures.ok) told)

pub returns-clause-state : goal.returns-clause-state
returns-clause-state c =
    let is =
    start_leaves c.args.held.now.memory c.open_cursor-started.new.self c.args.held.now.published.levels c.args.version c.args.lo.now c.args.hi.now c.open_cursor-started.result
    c.open_cursor-started.ensures.ok c.open_cursor-started.ensures.err in
    ap (λ (m : Memory). record c.args.held.now { memory = m }) is
    ∙ ap (λ (r : Reply). record c.args.held.now { memory = record c.args.held.now.memory { cursors = cursors_after c.args.held.now.memory c.args.held.now.published.levels (OpenCursor c.args.version c.args.lo.now c.args.hi.now) (plain r) } }) (sym c.reply_of_start.ensures.ok)

pub returns-clause-kept : goal.returns-clause-kept
returns-clause-kept c =
    consistent_after c.args.held.now c.open_cursor-started.new.self (OpenCursor c.args.version c.args.lo.now c.args.hi.now) (plain (reply_of_start c.open_cursor-started.result)) c.requires.kept
    (start_leaves c.args.held.now.memory c.open_cursor-started.new.self c.args.held.now.published.levels c.args.version c.args.lo.now c.args.hi.now c.open_cursor-started.result
    c.open_cursor-started.ensures.ok c.open_cursor-started.ensures.err)

pub returns-clause-cause : goal.returns-clause-cause
returns-clause-cause c = (ap is_fault c.reply_of_start.ensures.ok ∙ start_calm c.open_cursor-started.result, λ found. start_found c.open_cursor-started.result (sym c.reply_of_start.ensures.ok ∙ found))
