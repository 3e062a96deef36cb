use Rattle.std.proofs.Common.{◌≡◌, ℕ, Result, Err, ap, sym, ◌∙◌}
use Rattle.std.proofs.lemmas.Result.{err_from_is_err_and}
use Rattle.strat_base.specs.declared.failures.Trouble.{Trouble}
use Rattle.strat_base.specs.declared.failures.Trouble.TheVariants.{Damaged}
use Rattle.strat_memory.specs.Memory.{Memory}
use Rattle.strat_open.proofs.BothLemmas.{behind_refused, both_accepted, both_cursors, both_held, both_lawful, changes_read, front_refused}
use Rattle.strat_open.proofs.RecoverLemmas.{damaged_block, same_err_in}
use Rattle.strat_open.proofs.RedoLemmas.{sealed_redone}
use Rattle.std.proofs.Common.{take}
use Rattle.strat_open.proofs.recovery.replay_both.Goals as goal

-- the block that is handed on is the one that was named
named : {T : Type 0} (r : Result T Trouble) (x : Trouble) (b block : ℕ) → r ≡ Err x → x ≡ Damaged b → r ≡ Err (Damaged block) → b ≡ block
named r x b block is same given =
    damaged_block b block (ap {B = Result ℕ Trouble} (λ (t : Trouble). Err t) (sym same ∙ same_err_in r x (Damaged block) is given))

pub returns-in_err-replay-clause-damaged : goal.returns-in_err-replay-clause-damaged
returns-in_err-replay-clause-damaged c = λ block damaged.
    let p = err_from_is_err_and c.from_residual.result c.from_residual.ensures.1 in
    let d = c.in_err-replay.ensures.damaged in
    front_refused c.args.mem c.args.logged.now c.args.memory.now block (d.2 ∙ ap (λ (b : ℕ). Err b) (named c.from_residual.result p.0 d.0 block p.1 (p.2 ∙ d.1) damaged))

pub seal_full-requires-clause-none : goal.seal_full-requires-clause-none
seal_full-requires-clause-none c =
    ap (λ (m : Memory). m.sealed) c.in_ok-replay.ensures.ok ∙ sealed_redone (changes_read (take c.args.mem c.args.logged.now)) c.args.memory.now ∙ c.requires.none

pub returns-in_err-replay-2-clause-damaged : goal.returns-in_err-replay-2-clause-damaged
returns-in_err-replay-2-clause-damaged c = λ block damaged.
    let p = err_from_is_err_and c.from_residual-in_err-replay-2.result c.from_residual-in_err-replay-2.ensures.1 in
    let d = c.in_err-replay-2.ensures.damaged in
    behind_refused c.args.mem c.args.logged.now c.args.memory.now c.replay.new.memory c.seal_full.new.memory c.in_ok-replay.ensures.found c.in_ok-replay.ensures.ok c.in_ok-seal_full.ensures.ok block
    (d.2 ∙ ap (λ (b : ℕ). Err b) (named c.from_residual-in_err-replay-2.result p.0 d.0 block p.1 (p.2 ∙ d.1) damaged))

pub returns-clause-found : goal.returns-clause-found
returns-clause-found c =
    both_accepted c.args.mem c.args.logged.now c.args.memory.now c.replay.new.memory c.seal_full.new.memory c.in_ok-replay.ensures.found c.in_ok-replay.ensures.ok c.in_ok-seal_full.ensures.ok c.in_ok-replay-2.ensures.found

pub returns-clause-ok : goal.returns-clause-ok
returns-clause-ok c =
    both_held c.args.mem c.args.logged.now c.args.memory.now c.replay.new.memory c.seal_full.new.memory c.in_ok-replay.ensures.found c.in_ok-replay.ensures.ok c.in_ok-seal_full.ensures.ok c.replay-2.new.memory
    c.in_ok-replay-2.ensures.found c.in_ok-replay-2.ensures.ok c.requires.room.1 c.requires.none

pub returns-clause-cursors : goal.returns-clause-cursors
returns-clause-cursors c =
    both_cursors c.args.mem c.args.logged.now c.args.memory.now c.replay.new.memory c.seal_full.new.memory c.in_ok-replay.ensures.found c.in_ok-replay.ensures.ok c.in_ok-seal_full.ensures.ok c.replay-2.new.memory
    c.in_ok-replay-2.ensures.found c.in_ok-replay-2.ensures.ok

pub returns-clause-fits : goal.returns-clause-fits
returns-clause-fits c = both_lawful c.args.mem c.args.logged.now c.in_ok-replay.ensures.fits c.in_ok-replay-2.ensures.fits
