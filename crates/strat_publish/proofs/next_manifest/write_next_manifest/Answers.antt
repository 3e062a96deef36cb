use Rattle.std.proofs.Common.{refl, sym, subst, arith}
use Rattle.strat_base.proofs.ResultFacts.{err_of}
use Rattle.strat_manifest.specs.ManifestView.{manifest_of}
use Rattle.strat_publish.proofs.ComputedLemmas.{entries_counted}
use Rattle.strat_publish.proofs.ObstacleLemmas.{short_block, short_cause}
use Rattle.strat_publish.specs.Publishing.{MayBeWritten}
use Rattle.strat_publish.proofs.next_manifest.write_next_manifest.Goals as goal

pub returns-in_err-m-clause-none : goal.returns-in_err-m-clause-none
returns-in_err-m-clause-none g c = λ unfit may.
    let much = c.in_err-m.ensures.err (err_of c.from_residual.result _ _ c.from_residual.ensures.1 unfit) in
    let written = may.written in
    let next = may.next_array in
    let same = entries_counted c.args.made.now.level in
    absurd (omega (arith, much, written, next, same))

pub returns-in_err-m-clause-cause : goal.returns-in_err-m-clause-cause
returns-in_err-m-clause-cause g c = short_cause c.from_residual.result _ c.from_residual.ensures.1 c.in_err-m.ensures.cause _ _ refl

pub returns-in_err-m-clause-damaged : goal.returns-in_err-m-clause-damaged
returns-in_err-m-clause-damaged g c = λ b bad. short_block c.from_residual.result _ c.from_residual.ensures.1 c.in_err-m.ensures.cause b bad

pub returns-in_err-check_writable-clause-none : goal.returns-in_err-check_writable-clause-none
returns-in_err-check_writable-clause-none g c = λ _ may.
    let here : MayBeWritten (manifest_of c.in_ok-m.m) = subst MayBeWritten (sym c.in_ok-m.ensures.ok) may in
    absurd (c.in_err-check_writable.ensures.cause here.lawful here.short)

pub returns-in_err-first-clause-none : goal.returns-in_err-first-clause-none
returns-in_err-first-clause-none g c = λ unfit _. c.in_err-first.ensures.none (err_of c.from_residual-in_err-first.result _ _ c.from_residual-in_err-first.ensures.1 unfit)

pub returns-in_err-first-clause-damaged : goal.returns-in_err-first-clause-damaged
returns-in_err-first-clause-damaged g c = λ b bad. c.in_err-first.ensures.damaged b (err_of c.from_residual-in_err-first.result _ _ c.from_residual-in_err-first.ensures.1 bad)
