use Rattle.def_crash.proofs.BlockLemmas.{write_tears}
use Rattle.strat_manifest.proofs.chain_write.write_link.Goals as goal

pub returns-clause-images : goal.returns-clause-images
returns-clause-images g c = λ free is.
    write_tears free (g.D.Disk.view c.args.disk.now) (g.D.Disk.view c.write_at.new.self) c.args.block c.fill_link.new.buffer c.write_at.result is c.fill_link.ensures.len
    c.write_at.ensures.images.only c.write_at.ensures.time c.write_at.ensures.ok c.write_at.ensures.err
