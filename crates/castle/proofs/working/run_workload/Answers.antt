use Rattle.castle.proofs.SummaryLemmas.{summary_leaves, summary_sent}
use Rattle.castle.proofs.working.run_workload.Goals as goal

pub returns-in-Done-clause-ok : goal.returns-in-Done-clause-ok
returns-in-Done-clause-ok g c = λ f exposed.
    summary_leaves c.args.seed c.args.count (g.D.Disk.view c.args.disk.now) (g.D.Disk.view c.serve_workload.new.disk) (g.D.Disk.view c.write_summary.new.disk) c.write_summary.result
    (g.K.Sink.held c.args.sink.now) (g.K.Sink.held c.write_summary.new.sink) f exposed c.serve_workload.ensures.time (g.met.D.Disk.leaves_content c.serve_workload.new.disk)
    c.write_summary.ensures.same (c.in-Done.ensures.ok f exposed) c.write_summary.ensures.ok

pub returns-in-Done-clause-found : goal.returns-in-Done-clause-found
returns-in-Done-clause-found g c =
    summary_sent c.args.seed c.args.count (g.D.Disk.view c.serve_workload.new.disk) (g.D.Disk.view c.write_summary.new.disk) c.write_summary.ensures.same
    (g.K.Sink.held c.args.sink.now) (g.K.Sink.held c.write_summary.new.sink) c.write_summary.result c.write_summary.ensures.ok
