use Rattle.std.proofs.Common.{sym, ap, ◌∙◌}
use Rattle.strat_model.specs.Answer.{plain}
use Rattle.strat_model.specs.Request.{CloseCursor}
use Rattle.strat_model.specs.declared.replies.Reply.{Reply}
use Rattle.strat_store.specs.Applying.{is_fault}
use Rattle.strat_store.specs.Cursoring.{cursors_after, reply_of_close}
use Rattle.strat_memory.specs.Memory.{Memory}
use Rattle.strat_store.proofs.CursoringLemmas.{close_calm, close_found, close_leaves, close_short, close_told}
use Rattle.strat_store.proofs.KeepingLemmas.{consistent_after}
use Rattle.strat_store.proofs.cursors.reply_to_close_cursor.Goals as goal

pub returns-clause-found : goal.returns-clause-found
returns-clause-found c = λ f cached. ap plain c.reply_of_close.ensures.ok ∙ close_told c.close_cursor-there.result _ c.close_cursor-there.ensures.ok

pub returns-clause-state : goal.returns-clause-state
returns-clause-state c =
    let is = close_leaves c.args.held.now.memory c.close_cursor-there.new.self c.args.held.now.published.levels c.args.number c.close_cursor-there.result c.close_cursor-there.ensures.state c.close_cursor-there.ensures.none in
    ap (λ (m : Memory). record c.args.held.now { memory = m }) is
    ∙ ap (λ (r : Reply). record c.args.held.now { memory = record c.args.held.now.memory { cursors = cursors_after c.args.held.now.memory c.args.held.now.published.levels (CloseCursor c.args.number) (plain r) } }) (sym c.reply_of_close.ensures.ok)

pub returns-clause-kept : goal.returns-clause-kept
returns-clause-kept c =
    consistent_after c.args.held.now c.close_cursor-there.new.self (CloseCursor c.args.number) (plain (reply_of_close c.close_cursor-there.result)) c.requires.kept
    (close_leaves c.args.held.now.memory c.close_cursor-there.new.self c.args.held.now.published.levels c.args.number c.close_cursor-there.result c.close_cursor-there.ensures.state c.close_cursor-there.ensures.none)

pub returns-clause-cause : goal.returns-clause-cause
returns-clause-cause c = (ap is_fault c.reply_of_close.ensures.ok ∙ close_calm c.close_cursor-there.result, λ found. close_found c.close_cursor-there.result (sym c.reply_of_close.ensures.ok ∙ found), λ short. close_short c.close_cursor-there.result (sym c.reply_of_close.ensures.ok ∙ short))
