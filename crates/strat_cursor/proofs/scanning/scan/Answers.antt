use Rattle.std.proofs.Common.{arith, ◌≡◌, ℕ, true, Result, Ok, Err, is_err, sym, ap, ◌∙◌, subst, take, true≢false}
use Rattle.std.specs.Result.{IfOk}
use Rattle.def_crash.specs.Faults.{ReadsAtMost}
use Rattle.strat_cursor.specs.Looking.{reads_of_arrays}
use Rattle.strat_cursor.proofs.ReadLemmas.{reads_of_sources}
use Rattle.strat_cursor.proofs.scanning.scan.Goals as goal
use Rattle.strat_cursor.proofs.scanning.scan.Goals.{then-is_err, else-is_err}

pub returns-clause-reads : goal.returns-clause-reads
returns-clause-reads g c = λ n few.
    let told = c.scan_sources-told.ensures.reads n few in
    let most = reads_of_sources c.args.lo.now n (take c.pick-picked.result.count c.pick-picked.result.places) in
    record { later = told.later; bound = omega (arith, told.bound, most, ap (reads_of_arrays n) c.pick-picked.ensures.ok.arrays) }

-- a call that failed has no answer of which anything is to be shown
no_ok : {T E : Type 0} (P : T → Type 0) (r : Result T E) → is_err r ≡ true → IfOk r P
no_ok P (Ok x) is = absurd (true≢false (sym is))
no_ok P (Err e) is = tt

pub returns-clause-ok : goal.returns-clause-ok
returns-clause-ok g c =
    elim c.if-is_err.branch [
      | then-is_err w ↦ no_ok _ c.scan_sources-told.result (sym c.is_err.ensures.value ∙ w.if-is_err.true)
      | else-is_err w ↦ rw w.out-is c.scan_sources-told.ensures.ok
    ]
