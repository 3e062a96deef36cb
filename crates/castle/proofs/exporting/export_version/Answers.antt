use Rattle.def_crash.proofs.MomentLemmas.{passes_trans}
use Rattle.castle.proofs.ExportLemmas.{as_err, export_unbegun, exported_so, gave_up}
use Rattle.strat_open.specs.declared.attach_fault.AttachFault.TheVariants as fault
use Rattle.castle.proofs.exporting.export_version.Goals as goal

pub returns-in-Err-clause-ok : goal.returns-in-Err-clause-ok
returns-in-Err-clause-ok g c = λ left source_faults.
    let gave = c.in-Err.ensures in
    let e = c.in-Err.fault in
    gave_up c.args.version e left (g.K.Sink.held c.args.sink.now) source_faults (g.K.Sink.faults c.args.sink.now) (g.D.Disk.faults c.args.disk.now) (g.D.Disk.faults c.attach.new.disk)
    (g.D.Disk.view c.args.disk.now) (g.D.Disk.view c.attach.new.disk) (λ is f exposed. gave.none (as_err e fault.NotAStore is) f exposed) (λ b is f exposed. gave.damaged b (as_err e (fault.Damaged b) is) f exposed) c.attach.ensures.trail
    (λ is. gave.cause.device (as_err e fault.Device is)) gave.cause.other c.from.result c.from.ensures

pub returns-clause-ok : goal.returns-clause-ok
returns-clause-ok g c = λ left source_faults.
    let ran = c.export_pairs.ensures in
    let opened = c.in-Ok.ensures.ok in
    exported_so c.args.version c.export_pairs.result left (g.K.Sink.held c.args.sink.now) (g.K.Sink.held c.export_pairs.new.sink) source_faults (g.K.Sink.faults c.args.sink.now) (g.K.Sink.faults c.export_pairs.new.sink)
    (g.D.Disk.faults c.args.disk.now) (g.D.Disk.faults c.attach.new.disk) (g.D.Disk.faults c.export_pairs.new.disk) (g.D.Disk.view c.args.disk.now) (g.D.Disk.view c.attach.new.disk) (g.D.Disk.view c.export_pairs.new.disk) c.in-Ok.store
    opened.0 opened.2 c.attach.ensures.time c.in-Ok.ensures.cause.ok c.attach.ensures.trail ran.ok.0 ran.ok.1 ran.ok.2 ran.ok.3 ran.kept ran.none.0 ran.none.1 ran.end ran.found ran.damaged ran.same.0 ran.cause

pub returns-clause-same : goal.returns-clause-same
returns-clause-same g c = λ is. (c.export_pairs.ensures.same.1 (export_unbegun c.export_pairs.result c.export_pairs.ensures.end is)).0

pub returns-clause-time : goal.returns-clause-time
returns-clause-time g c = passes_trans c.attach.ensures.time c.export_pairs.ensures.same.0.time
