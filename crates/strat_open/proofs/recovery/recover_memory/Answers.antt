use Rattle.std.proofs.Common.{◌≡◌, ℕ, map, Result, Err, ap, sym, ◌∙◌, [], arith}
use Rattle.std.proofs.lemmas.List.{length-map}
use Rattle.std.proofs.lemmas.Result.{err_from_is_err_and}
use Rattle.strat_base.specs.declared.failures.Trouble.{Trouble}
use Rattle.strat_base.specs.declared.failures.Trouble.TheVariants.{Damaged}
use Rattle.strat_journal.specs.Records.{logged_of}
use Rattle.strat_gate.specs.SuperView.{super_of}
use Rattle.strat_memory.specs.Admitting.{chained_of}
use Rattle.strat_open.proofs.RecoverLemmas.{accepted_in_turn, damaged_block, memory_accepts, memory_redone, same_err_in}
use Rattle.strat_memory.specs.Memory.{Memory}
use Rattle.strat_open.proofs.RedoLemmas.{cursors_redone}
use Rattle.strat_open.proofs.recovery.recover_memory.Goals as goal

pub returns-in_err-replay_both-clause-damaged : goal.returns-in_err-replay_both-clause-damaged
returns-in_err-replay_both-clause-damaged c = λ block damaged.
    let p = err_from_is_err_and c.from_residual-in_err-replay_both.result c.from_residual-in_err-replay_both.ensures.1 in
    sym (memory_accepts (super_of c.args.sb.now) (chained_of c.args.published.now).manifest c.in_ok-memory.memory c.in_ok-memory.ensures.ok (map logged_of c.args.logged.now))
    ∙ c.in_err-replay_both.ensures.damaged block (ap (λ (t : Trouble). Err t) (sym p.2 ∙ same_err_in c.from_residual-in_err-replay_both.result p.0 (Damaged block) p.1 damaged))

pub returns-then-logged-sb-clause-found : goal.returns-then-logged-sb-clause-found
returns-then-logged-sb-clause-found c =
    sym (memory_accepts (super_of c.args.sb.now) (chained_of c.args.published.now).manifest c.in_ok-memory.memory c.in_ok-memory.ensures.ok (map logged_of c.args.logged.now))
    ∙ c.in_ok-replay_both.ensures.found

pub returns-clause-ok : goal.returns-clause-ok
returns-clause-ok c =
    memory_redone (super_of c.args.sb.now) (chained_of c.args.published.now).manifest c.in_ok-memory.memory c.in_ok-memory.ensures.ok c.replay.new.memory
    (map (λ l. l.change) c.args.logged.now)
    (accepted_in_turn c.in_ok-memory.memory.changes_max c.in_ok-memory.memory.versions_max c.in_ok-memory.memory.parents c.in_ok-memory.memory.marks c.in_ok-memory.memory.changes
    (map logged_of c.args.logged.now) (map (λ l. l.change) c.args.logged.now) c.in_ok-replay.ensures.found)
    (omega (arith, c.requires.room, length-map c.args.logged.now (λ l. l.change)))
    c.in_ok-replay.ensures.ok

pub returns-clause-found : goal.returns-clause-found
returns-clause-found c =
    sym (memory_accepts (super_of c.args.sb.now) (chained_of c.args.published.now).manifest c.in_ok-memory.memory c.in_ok-memory.ensures.ok (map logged_of c.args.logged.now))
    ∙ c.in_ok-replay.ensures.found

pub returns-clause-cursors : goal.returns-clause-cursors
returns-clause-cursors c =
    ap (λ (m : Memory). m.cursors) c.in_ok-replay.ensures.ok ∙ cursors_redone (map (λ l. l.change) c.args.logged.now) c.in_ok-memory.memory ∙ c.in_ok-memory.ensures.cursors

pub returns-in_err-replay-clause-damaged : goal.returns-in_err-replay-clause-damaged
returns-in_err-replay-clause-damaged c = λ block damaged.
    let p = err_from_is_err_and c.from_residual-in_err-replay.result c.from_residual-in_err-replay.ensures.1 in
    let d = c.in_err-replay.ensures.damaged in
    let both : ◌≡◌ {A = Result ℕ Trouble} (Err (Damaged d.0)) (Err (Damaged block)) =
    ap {B = Result ℕ Trouble} (λ (t : Trouble). Err t) (sym (p.2 ∙ d.1) ∙ same_err_in c.from_residual-in_err-replay.result p.0 (Damaged block) p.1 damaged) in
    sym (memory_accepts (super_of c.args.sb.now) (chained_of c.args.published.now).manifest c.in_ok-memory.memory c.in_ok-memory.ensures.ok (map logged_of c.args.logged.now))
    ∙ d.2 ∙ ap (λ (b : ℕ). Err b) (damaged_block d.0 block both)
