use Rattle.def_crash.proofs.MomentLemmas.{reads_trans}
use Rattle.std.proofs.Common.{refl, ◌∙◌, arith}
use Rattle.std.proofs.lemmas.Result.{err_from_is_err_and}
use Rattle.strat_journal.proofs.ReadLemmas.{same_err, begun, one_more, ends_shut, ends_torn, ends_full, front_kept}
use Rattle.strat_journal.proofs.read.read_region.Goals as goal

pub loop-i-init : goal.loop-i-init
loop-i-init g c = (begun _ _ _ _ _ _ _ c.in_ok-reader.ensures.ok c.in_ok-logged.ensures.items, refl)

pub returns-in_err-record-clause-damaged : goal.returns-in_err-record-clause-damaged
returns-in_err-record-clause-damaged g c = λ b torn.
    let p = err_from_is_err_and c.from_residual-in_err-record.result c.from_residual-in_err-record.ensures.1 in
    ends_torn _ _ (g.D.Disk.view c.next.new.disk) _ _ (g.D.Disk.reads c.next.new.disk) _ _ _ _ _ _ c.next.new.self _ c.loop-i.invariant.0 b c.loop-i-test.true (c.in_err-record.ensures.damaged b (same_err c.from_residual-in_err-record.result p.0 _ _ p.1 p.2 torn))

pub returns-in_err-record-clause-same : goal.returns-in_err-record-clause-same
returns-in_err-record-clause-same g c = reads_trans c.loop-i.invariant.0.looks c.next.ensures.ok.looks

pub returns-in_default-clause-found : goal.returns-in_default-clause-found
returns-in_default-clause-found g c =
    ends_shut _ _ (g.D.Disk.view c.next.new.disk) _ _ (g.D.Disk.reads c.next.new.disk) _ _ _ _ _ _ c.next.new.self _ c.loop-i.invariant.0 c.loop-i-test.true (rw c.in_default.is at c.in_ok-record.ensures.found)

pub returns-in_default-clause-same : goal.returns-in_default-clause-same
returns-in_default-clause-same g c = reads_trans c.loop-i.invariant.0.looks c.next.ensures.ok.looks

pub returns-in_err-push-clause-same : goal.returns-in_err-push-clause-same
returns-in_err-push-clause-same g c = reads_trans c.loop-i.invariant.0.looks c.next.ensures.ok.looks

pub loop-i-preserved : goal.loop-i-preserved
loop-i-preserved g c =
    let on = c.in_ok-record.ensures in (
      one_more _ _ _ _ _ _ _ _ _ _ _ _ _ _ c.loop-i.invariant.0 _ c.in-Some.record c.in-Some.next c.loop-i-test.true on.ok
          (rw c.in-Some.is at on.found) (rw c.in-Some.is at on.fits) (rw c.in-Some.is at on.end) _ c.in_ok-push.ensures.items,
      on.cause.ok ∙ c.loop-i.invariant.1,
    )

pub returns-clause-found : goal.returns-clause-found
returns-clause-found g c = ends_full _ _ (g.D.Disk.view c.loop-i.disk) _ _ (g.D.Disk.reads c.loop-i.disk) _ _ _ _ _ _ c.loop-i.reader _ c.loop-i.invariant.0 (omega arith)

pub returns-in_default-clause-kept : goal.returns-in_default-clause-kept
returns-in_default-clause-kept g c =
    front_kept _ c.next.new.self.bytes c.loop-i.at c.into_front-bytes.result.items c.loop-i.logged.items c.loop-i.invariant.0.kept (c.next.ensures.ok.front c.loop-i.at c.loop-i.invariant.0.near) c.into_front-bytes.ensures

pub returns-clause-kept : goal.returns-clause-kept
returns-clause-kept g c = rw c.into_front-bytes-2.ensures c.loop-i.invariant.0.kept
