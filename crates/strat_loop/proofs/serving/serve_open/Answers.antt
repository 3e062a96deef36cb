use Rattle.strat_loop.specs.World.{world}
use Rattle.strat_loop.proofs.GiveUpLemmas.{served_refuses, served_late}
use Rattle.strat_loop.proofs.serving.serve_open.Goals as goal

pub returns-clause-found : goal.returns-clause-found
returns-clause-found g c = λ d opened. served_refuses g.P.Protocol.speech c.args.budget c.serve_frames.result
    (world (g.S.Source.left c.args.source.now) (g.S.Source.faults c.args.source.now) (g.K.Sink.held c.args.sink.now) (g.K.Sink.faults c.args.sink.now) (g.D.Disk.view d) (g.D.Disk.faults d))
    (world (g.S.Source.left c.serve_frames.new.source) (g.S.Source.faults c.serve_frames.new.source) (g.K.Sink.held c.serve_frames.new.sink) (g.K.Sink.faults c.serve_frames.new.sink) (g.D.Disk.view c.serve_frames.new.disk) (g.D.Disk.faults c.serve_frames.new.disk))
    (c.serve_frames.ensures.ok d opened)

pub returns-clause-end : goal.returns-clause-end
returns-clause-end g c = λ d opened. served_late g.P.Protocol.speech c.args.budget c.serve_frames.result
    (world (g.S.Source.left c.args.source.now) (g.S.Source.faults c.args.source.now) (g.K.Sink.held c.args.sink.now) (g.K.Sink.faults c.args.sink.now) (g.D.Disk.view d) (g.D.Disk.faults d))
    (world (g.S.Source.left c.serve_frames.new.source) (g.S.Source.faults c.serve_frames.new.source) (g.K.Sink.held c.serve_frames.new.sink) (g.K.Sink.faults c.serve_frames.new.sink) (g.D.Disk.view c.serve_frames.new.disk) (g.D.Disk.faults c.serve_frames.new.disk))
    (c.serve_frames.ensures.ok d opened)
