use Rattle.strat_journal.specs.contracts.journal.Journal.{the_view}
use Rattle.strat_journal.proofs.ClosingLemmas.{turned_stands, keeps_short}
use Rattle.strat_journal.proofs.SplitLemmas.{later_few}
use Rattle.strat_journal.proofs.journal.Journal.turn.Goals as goal

pub returns-clause-durable : goal.returns-clause-durable
returns-clause-durable g c = rw (← c.self.view_is) c.in_ok-close_region.ensures.durable

pub returns-clause-same : goal.returns-clause-same
returns-clause-same g c =
    rw (← c.self.view_is)
    (keeps_short (g.D.Disk.view c.args.disk.now) (g.D.Disk.view c.close_region.new.disk) c.self.inside.mem c.self.inside.active c.self.invariant.mem_least c.self.invariant.active_most
    (λ d left. g.met.D.Disk.leaves_bytes c.args.disk.now _ d left) c.close_region.ensures.images)

pub returns-in_err-close_region-clause-same : goal.returns-in_err-close_region-clause-same
returns-in_err-close_region-clause-same g c =
    rw (← c.self.view_is)
    (keeps_short (g.D.Disk.view c.args.disk.now) (g.D.Disk.view c.close_region.new.disk) c.self.inside.mem c.self.inside.active c.self.invariant.mem_least c.self.invariant.active_most
    (λ d left. g.met.D.Disk.leaves_bytes c.args.disk.now _ d left) c.close_region.ensures.images)

pub returns-clause-kept : goal.returns-clause-kept
returns-clause-kept g c =
    let s = c.self.inside in
    rw (c.begin_region.ensures.ok, ← c.self.view_is)
    (λ f exposed settled later.
    turned_stands (g.D.Disk.view c.args.disk.now) (g.D.Disk.view c.close_region.new.disk) (the_view s) c.self.invariant.active_most (later_few s.mem s.active s.stale s.front s.back c.self.invariant)
    (keeps_short (g.D.Disk.view c.args.disk.now) (g.D.Disk.view c.close_region.new.disk) s.mem s.active c.self.invariant.mem_least c.self.invariant.active_most
    (λ d left. g.met.D.Disk.leaves_bytes c.args.disk.now _ d left) c.close_region.ensures.images)
    later c.close_region.ensures.time (c.in_ok-close_region.ensures.durable f exposed settled))
