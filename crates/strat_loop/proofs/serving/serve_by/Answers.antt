use Rattle.std.proofs.Common.{refl, inl, inr}
use Rattle.strat_loop.specs.World.{World, world}
use Rattle.strat_loop.proofs.GiveUpLemmas.{caused_since}
use Rattle.strat_loop.proofs.serving.serve_by.Given.{Over}
use Rattle.strat_loop.proofs.serving.serve_by.Goals as goal
use Rattle.strat_loop.proofs.serving.serve_by.Goals.{After-serve_open}

-- what a source, a sink and a disk show
abbrev shown : (g : Over) → g.row.S.Denot → g.row.K.Denot → g.row.D.Denot → World
shown g source sink disk = world (g.S.Source.left source) (g.S.Source.faults source) (g.K.Sink.held sink) (g.K.Sink.faults sink) (g.D.Disk.view disk) (g.D.Disk.faults disk)

pub returns-in-Err-clause-ok : goal.returns-in-Err-clause-ok
returns-in-Err-clause-ok g c = inl (c.in-Err.ensures.err (g.S.Source.left c.args.source.now) (g.K.Sink.held c.args.sink.now) (g.S.Source.faults c.args.source.now) (g.K.Sink.faults c.args.sink.now))

pub returns-in-Err-clause-cause : goal.returns-in-Err-clause-cause
returns-in-Err-clause-cause g c = c.in-Err.ensures.cause (g.S.Source.left c.args.source.now) (g.K.Sink.held c.args.sink.now) (g.S.Source.faults c.args.source.now) (g.K.Sink.faults c.args.sink.now)

pub returns-clause-ok : goal.returns-clause-ok
returns-clause-ok g c = inr (c.serve_open.ensures.ok c.args.disk.now c.in-Ok-open_store.ensures.ok.0)

pub returns-clause-found : goal.returns-clause-found
returns-clause-found g c = c.serve_open.ensures.found c.args.disk.now c.in-Ok-open_store.ensures.ok.0

pub returns-clause-cause : goal.returns-clause-cause
returns-clause-cause g c =
    caused_since c.serve_open.result (shown g c.args.source.now c.args.sink.now c.args.disk.now) (shown g c.args.source.now c.args.sink.now c.open_store.new.disk)
    (shown g c.serve_open.new.source c.serve_open.new.sink c.serve_open.new.disk) refl refl c.in-Ok-open_store.ensures.ok.0.calm c.serve_open.ensures.cause

pub returns-clause-same : goal.returns-clause-same
returns-clause-same g c = λ early. absurd (c.serve_open.ensures.end c.args.disk.now c.in-Ok-open_store.ensures.ok.0 early)
