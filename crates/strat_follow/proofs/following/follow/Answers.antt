use Rattle.strat_loop.specs.World.{World, world}
use Rattle.strat_follow.proofs.CopyLemmas.{copies_logs}
use Rattle.strat_follow.proofs.following.follow.Given.{Over}
use Rattle.strat_follow.proofs.following.follow.Goals as goal

-- what a source, a sink and a disk show
abbrev shown : (g : Over) → g.row.S.Denot → g.row.K.Denot → g.row.D.Denot → World
shown g source sink disk = world (g.S.Source.left source) (g.S.Source.faults source) (g.K.Sink.held sink) (g.K.Sink.faults sink) (g.D.Disk.view disk) (g.D.Disk.faults disk)

pub returns-clause-kept : goal.returns-clause-kept
returns-clause-kept g c =
    copies_logs (shown g c.args.source.now c.args.sink.now c.args.disk.now) (shown g c.serve_by.new.source c.serve_by.new.sink c.serve_by.new.disk)
    c.serve_by.ensures.time.later (g.met.D.Disk.leaves_content c.args.disk.now) c.args.budget c.serve_by.result c.serve_by.ensures.ok
