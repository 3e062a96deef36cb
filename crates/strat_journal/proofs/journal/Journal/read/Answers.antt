use Rattle.std.proofs.Common.{◌∙◌, ap, arith}
use Rattle.def_crash.proofs.MomentLemmas.{reads_trans}
use Rattle.std.proofs.lemmas.Result.{err_from_is_err_and}
use Rattle.strat_journal.specs.Log.{Log}
use Rattle.strat_journal.proofs.BothRegionsLemmas.{recovers}
use Rattle.strat_journal.proofs.ReadLemmas.{same_err}
use Rattle.strat_journal.proofs.journal.Journal.read.Goals as goal

pub returns-clause-same : goal.returns-clause-same
returns-clause-same g c = reads_trans c.read_region.ensures.same c.read_later.ensures.same

pub returns-in_err-later-clause-same : goal.returns-in_err-later-clause-same
returns-in_err-later-clause-same g c = reads_trans c.read_region.ensures.same c.read_later.ensures.same

pub returns-in_err-append-clause-same : goal.returns-in_err-append-clause-same
returns-in_err-append-clause-same g c = reads_trans c.read_region.ensures.same c.read_later.ensures.same

pub returns-in_err-later-clause-damaged : goal.returns-in_err-later-clause-damaged
returns-in_err-later-clause-damaged g c = λ b torn f exposed.
    let p = err_from_is_err_and c.from_residual-in_err-later.result c.from_residual-in_err-later.ensures.1 in
    (rw c.deref.ensures.value at c.in_err-later.ensures.damaged) b (same_err c.from_residual-in_err-later.result p.0 _ _ p.1 p.2 torn) f
    (c.read_region.ensures.same.same ∙ exposed) (c.in_ok-first.ensures.found f exposed)

pub returns-clause-found : goal.returns-clause-found
returns-clause-found g c = λ f exposed.
    recovers f c.args.sb.now.mem c.args.sb.now.region c.in_ok-first.first.logged.items c.in_ok-later.later.logged.items c.append.new.self.items c.in_ok-later.stale c.set_stale.new.self
    (omega (arith, c.requires.mem_least)) c.in_ok-append.ensures.items
    (ap (λ (j : Log). j.list) c.set_stale.ensures.ok ∙ ap (λ (j : Log). j.list) c.restore.ensures.ok)
    (ap (λ (j : Log). j.stale) c.set_stale.ensures.ok)
    ((rw c.deref.ensures.value at c.in_ok-later.ensures.found) f (c.read_region.ensures.same.same ∙ exposed) (c.in_ok-first.ensures.found f exposed))
