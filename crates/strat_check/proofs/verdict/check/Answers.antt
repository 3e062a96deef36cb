use Rattle.std.proofs.Common.{ℕ, Err, sym, ap, ◌∙◌, subst, arith}
use Rattle.strat_base.proofs.ResultFacts.{if_ok_then}
use Rattle.def_crash.proofs.MomentLemmas.{reads_trans}
use Rattle.strat_open.specs.declared.attach_fault.AttachFault.{AttachFault}
use Rattle.strat_check.specs.Verdicts.{verdict_told, IsRight, VerdictHasCause}
use Rattle.strat_check.specs.declared.verdict.Verdict.{Verdict}
use Rattle.strat_check.proofs.StoreLemmas.{reads_few}
use Rattle.strat_check.proofs.VerdictLemmas.{reads_both, unread_tells, reads_of_store, fault_right, fault_caused, told_right, told_caused, found_from}
use Rattle.strat_check.proofs.verdict.check.Given.{Over}
use Rattle.strat_check.proofs.verdict.check.Goals as goal
use Rattle.strat_check.proofs.verdict.check.Goals.{After-of_unread, After-of_told}

-- the store could not be read

unread : (g : Over) (c : After-of_unread g) → IsRight (g.D.Disk.view c.args.disk.now) c.of_unread.result
unread g c =
    subst (IsRight (g.D.Disk.view c.args.disk.now)) (sym c.of_unread.ensures.ok)
    (fault_right (g.D.Disk.view c.args.disk.now) c.in-Err.fault (λ is. c.in-Err.ensures.none (ap (λ (e : AttachFault). Err e) is)) (λ b is. c.in-Err.ensures.damaged b (ap (λ (e : AttachFault). Err e) is)))

unread_caused : (g : Over) (c : After-of_unread g) → VerdictHasCause c.of_unread.result (g.D.Disk.faults c.args.disk.now) (g.D.Disk.faults c.read_store.new.disk)
unread_caused g c =
    subst (λ (v : Verdict). VerdictHasCause v (g.D.Disk.faults c.args.disk.now) (g.D.Disk.faults c.read_store.new.disk)) (sym c.of_unread.ensures.ok)
    (fault_caused c.in-Err.fault (g.D.Disk.faults c.args.disk.now) (g.D.Disk.faults c.read_store.new.disk) c.in-Err.ensures.cause)

pub returns-in-Err-clause-ok : goal.returns-in-Err-clause-ok
returns-in-Err-clause-ok g c = unread g (goal.at.returns-in-Err-clause-ok g c).After-of_unread

pub returns-in-Err-clause-found : goal.returns-in-Err-clause-found
returns-in-Err-clause-found g c =
    let at = (goal.at.returns-in-Err-clause-found g c).After-of_unread in
    found_from (g.D.Disk.view c.args.disk.now) c.of_unread.result (g.D.Disk.faults c.args.disk.now) (g.D.Disk.faults c.read_store.new.disk) (unread g at) (unread_caused g at)

pub returns-in-Err-clause-reads : goal.returns-in-Err-clause-reads
returns-in-Err-clause-reads g c = (
  reads_few _ _ _ _ c.read_store.ensures.reads.0 (omega arith),
  λ f h exposed found memory device.
      absurd (unread_tells (g.D.Disk.view c.args.disk.now) c.in-Err.fault (λ is. c.in-Err.ensures.none (ap (λ (e : AttachFault). Err e) is)) (λ b is. c.in-Err.ensures.damaged b (ap (λ (e : AttachFault). Err e) is)) f h exposed found
      (λ is. memory (c.of_unread.ensures.ok ∙ is)) (λ is. device (c.of_unread.ensures.ok ∙ is))),
)

-- the store was read

told : (g : Over) (c : After-of_told g) → IsRight (g.D.Disk.view c.args.disk.now) c.of_told.result
told g c =
    let same = c.read_store.ensures.same.same in
    subst (IsRight (g.D.Disk.view c.args.disk.now)) (sym c.of_told.ensures.ok)
    (told_right (g.D.Disk.view c.args.disk.now) _ c.check_store-told.result c.in-Ok.ensures.found
    (if_ok_then c.check_store-told.result c.check_store-told.ensures.ok (λ b known f exposed. known f (same ∙ exposed)))
    (λ b torn f exposed. c.check_store-told.ensures.damaged b torn f (same ∙ exposed)))

told_why : (g : Over) (c : After-of_told g) → VerdictHasCause c.of_told.result (g.D.Disk.faults c.args.disk.now) (g.D.Disk.faults c.check_store-told.new.disk)
told_why g c =
    subst (λ (v : Verdict). VerdictHasCause v (g.D.Disk.faults c.args.disk.now) (g.D.Disk.faults c.check_store-told.new.disk)) (sym c.of_told.ensures.ok)
    (subst (λ (n : ℕ). VerdictHasCause (verdict_told c.check_store-told.result) n (g.D.Disk.faults c.check_store-told.new.disk)) c.in-Ok.ensures.cause.ok
    (told_caused c.check_store-told.result (g.D.Disk.faults c.read_store.new.disk) (g.D.Disk.faults c.check_store-told.new.disk) c.check_store-told.ensures.cause))

pub returns-clause-ok : goal.returns-clause-ok
returns-clause-ok g c = told g (goal.at.returns-clause-ok g c).After-of_told

pub returns-clause-found : goal.returns-clause-found
returns-clause-found g c =
    let at = (goal.at.returns-clause-found g c).After-of_told in
    found_from (g.D.Disk.view c.args.disk.now) c.of_told.result (g.D.Disk.faults c.args.disk.now) (g.D.Disk.faults c.check_store-told.new.disk) (told g at) (told_why g at)

pub returns-clause-same : goal.returns-clause-same
returns-clause-same g c = reads_trans c.read_store.ensures.same c.check_store-told.ensures.same

pub returns-clause-cause : goal.returns-clause-cause
returns-clause-cause g c = told_why g (goal.at.returns-clause-cause g c).After-of_told

pub returns-clause-reads : goal.returns-clause-reads
returns-clause-reads g c = (
  reads_both _ _ _ _ _ c.read_store.ensures.reads.0 c.check_store-told.ensures.reads.0,
  λ f h exposed found memory device. reads_of_store f h _ _ _ _ (c.in-Ok.ensures.found f exposed) found c.in-Ok.ensures.reads.1.0 c.check_store-told.ensures.reads.1,
)
