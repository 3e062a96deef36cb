use Rattle.strat_loop.specs.World.{world}
use Rattle.strat_serve.proofs.RepliesLemmas.{outcome_so}
use Rattle.strat_serve.proofs.serving.serve.Goals as goal

pub returns-clause-ok : goal.returns-clause-ok
returns-clause-ok g c =
    outcome_so c.args.budget c.serve_by.result
    (world (g.S.Source.left c.args.source.now) (g.S.Source.faults c.args.source.now) (g.K.Sink.held c.args.sink.now) (g.K.Sink.faults c.args.sink.now) (g.D.Disk.view c.args.disk.now) (g.D.Disk.faults c.args.disk.now))
    (world (g.S.Source.left c.serve_by.new.source) (g.S.Source.faults c.serve_by.new.source) (g.K.Sink.held c.serve_by.new.sink) (g.K.Sink.faults c.serve_by.new.sink) (g.D.Disk.view c.serve_by.new.disk) (g.D.Disk.faults c.serve_by.new.disk))
    c.serve_by.ensures.ok
