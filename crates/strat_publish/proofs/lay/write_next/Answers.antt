use Rattle.strat_manifest.specs.ManifestView.{manifest_of}
use Rattle.strat_promote.proofs.ObstacleLemmas.{block_handed, cause_handed, fit_handed}
use Rattle.strat_publish.proofs.ObstacleLemmas.{short_told}
use Rattle.strat_publish.proofs.WritingLemmas.{has_stored, space_written}
use Rattle.strat_publish.proofs.lay.write_next.Goals as goal

pub returns-in_err-written-clause-none : goal.returns-in_err-written-clause-none
returns-in_err-written-clause-none g c = λ unfit. absurd (fit_handed _ c.from_residual-in_err-written.result c.from_residual-in_err-written.ensures.1 unfit)

pub returns-in_err-written-clause-same : goal.returns-in_err-written-clause-same
returns-in_err-written-clause-same g c = λ short. c.in_err-written.ensures.same (short_told _ c.from_residual-in_err-written.result c.from_residual-in_err-written.ensures.1 short)

pub returns-in_err-written-clause-cause : goal.returns-in_err-written-clause-cause
returns-in_err-written-clause-cause g c = cause_handed _ c.from_residual-in_err-written.result c.from_residual-in_err-written.ensures.1 _ _ c.in_err-written.ensures.cause

pub returns-in_err-written-clause-damaged : goal.returns-in_err-written-clause-damaged
returns-in_err-written-clause-damaged g c = λ b bad. c.in_err-written.ensures.damaged b (block_handed _ c.from_residual-in_err-written.result c.from_residual-in_err-written.ensures.1 b bad)

pub returns-clause-ok : goal.returns-clause-ok
returns-clause-ok g c = λ told h now new to.
    has_stored h c.in_ok-written.written.0 c.in_ok-written.written.1 c.in_ok-written.written.2 (manifest_of c.args.m.now) new (c.in_ok-written.ensures.ok told h now) c.in_ok-written.ensures.len to

pub returns-clause-kept : goal.returns-clause-kept
returns-clause-kept g c = space_written c.args.space.now c.write.new.space c.in_ok-written.written.2 c.in_ok-written.ensures.found.0
