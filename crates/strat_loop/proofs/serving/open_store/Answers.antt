use Rattle.std.proofs.Common.{Err, ap}
use Rattle.strat_open.specs.declared.attach_fault.AttachFault.{AttachFault}
use Rattle.strat_loop.specs.World.{world}
use Rattle.strat_loop.proofs.GiveUpLemmas.{gave_up, gave_up_for}
use Rattle.strat_loop.proofs.serving.open_store.Goals as goal

pub returns-in-Err-clause-err : goal.returns-in-Err-clause-err
returns-in-Err-clause-err g c = λ left held n m.
    gave_up c.from.result c.in-Err.fault (world left n held m (g.D.Disk.view c.args.disk.now) (g.D.Disk.faults c.args.disk.now)) (g.D.Disk.view c.attach.new.disk) (g.D.Disk.faults c.attach.new.disk)
    c.from.ensures (λ e. c.in-Err.ensures.err (ap (λ (x : AttachFault). Err x) e)) c.in-Err.ensures.same (λ b e. c.in-Err.ensures.damaged b (ap (λ (x : AttachFault). Err x) e))

pub returns-in-Err-clause-found : goal.returns-in-Err-clause-found
returns-in-Err-clause-found g c =
    gave_up_for c.from.result c.in-Err.fault (g.D.Disk.view c.args.disk.now) (g.D.Disk.view c.attach.new.disk) c.from.ensures
    (λ e. c.in-Err.ensures.none (ap (λ (x : AttachFault). Err x) e)) (λ b e. c.in-Err.ensures.damaged b (ap (λ (x : AttachFault). Err x) e))
