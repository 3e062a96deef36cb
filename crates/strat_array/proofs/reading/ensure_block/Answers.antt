use Rattle.strat_array.proofs.KeptLemmas.{looks_fetched}
use Rattle.strat_array.proofs.reading.ensure_block.Goals as goal

pub returns-clause-same : goal.returns-clause-same
returns-clause-same g c = λ blocks place.
    let on = c.in_ok-fetch.ensures in
    looks_fetched (g.D.Disk.view c.args.disk.now) c.args.desc.now.id blocks c.args.cache.now c.touch.new.self c.args.scratch.now c.touch.ensures.kept (g.D.Disk.view c.fetch.new.disk)
    c.args.index c.args.block c.insert.new.self c.fetch.new.self _ on.same c.insert.ensures.kept on.found on.ok c.block.ensures.ok place
