use Rattle.std.proofs.Common.{◌≡◌, ◌≤◌, ◌<◌, List, map, length, true, Ok, sym, ap, subst, ◌∙◌, arith, get_or}
use Rattle.std.specs.List.{list_all}
use Rattle.std.proofs.Math.ListN.{get_or-map}
use Rattle.std.proofs.lemmas.List.{length-map}
use Rattle.std.proofs.lemmas.Result.{err_from_is_err_and}
use Rattle.std.proofs.lemmas.Simd.{map-map}
use Rattle.strat_journal.specs.Records.{logged_of}
use Rattle.strat_base.specs.Change.{Change, is_lawful}
use Rattle.def_bytes.specs.Records.{Logged}
use Rattle.strat_open.proofs.RedoLemmas.{redone_all, redone_more, redone_not}
use Rattle.strat_open.proofs.recovery.replay.Goals as goal

pub returns-in_err-redo-clause-damaged : goal.returns-in_err-redo-clause-damaged
returns-in_err-redo-clause-damaged c =
    let within : c.loop-record.record-index < length (map logged_of c.args.logged.now) = omega (arith, length-map c.args.logged.now logged_of, c.loop-record-test.true) in
    let at : get_or (map logged_of c.args.logged.now) c.loop-record.record-index (logged_of c.record-item.result) ≡ logged_of c.record-item.result =
    get_or-map logged_of c.args.logged.now c.loop-record.record-index c.record-item.result ∙ ap logged_of (sym c.record-item.is) in
    let p = err_from_is_err_and c.from_residual.result c.from_residual.ensures.1 in
    rw p.1 (
      c.record-item.result.block,
      p.2 ∙ c.in_err-redo.ensures.err.0,
      redone_not c.args.memory.now (map logged_of c.args.logged.now) c.loop-record.record-index c.loop-record.memory (logged_of c.record-item.result) c.loop-record.invariant within at c.in_err-redo.ensures.err.1,
    )

pub loop-record-preserved : goal.loop-record-preserved
loop-record-preserved c =
    let within : c.loop-record.record-index < length (map logged_of c.args.logged.now) = omega (arith, length-map c.args.logged.now logged_of, c.loop-record-test.true) in
    let at : get_or (map logged_of c.args.logged.now) c.loop-record.record-index (logged_of c.record-item.result) ≡ logged_of c.record-item.result =
    get_or-map logged_of c.args.logged.now c.loop-record.record-index c.record-item.result ∙ ap logged_of (sym c.record-item.is) in
    redone_more c.args.memory.now (map logged_of c.args.logged.now) c.loop-record.record-index c.loop-record.memory (logged_of c.record-item.result) c.loop-record.invariant within at c.redo.new.memory
    c.in_ok-redo.ensures.ok.0 c.in_ok-redo.ensures.ok.1 c.in_ok-redo.ensures.fits

pub returns-clause-found : goal.returns-clause-found
returns-clause-found c =
    let past : length (map logged_of c.args.logged.now) ≤ c.loop-record.record-index = omega (arith, length-map c.args.logged.now logged_of, c.loop-record-test.false) in
    let all = redone_all c.args.memory.now (map logged_of c.args.logged.now) c.loop-record.record-index c.loop-record.memory past c.loop-record.invariant in
    all.0 ∙ ap (λ (xs : List Change). Ok xs) (map-map (λ (l : Logged). l.change) logged_of c.args.logged.now)

pub returns-clause-fits : goal.returns-clause-fits
returns-clause-fits c =
    let past : length (map logged_of c.args.logged.now) ≤ c.loop-record.record-index = omega (arith, length-map c.args.logged.now logged_of, c.loop-record-test.false) in
    let all = redone_all c.args.memory.now (map logged_of c.args.logged.now) c.loop-record.record-index c.loop-record.memory past c.loop-record.invariant in
    subst (λ (xs : List Change). list_all is_lawful xs ≡ true) (map-map (λ (l : Logged). l.change) logged_of c.args.logged.now) all.2
