use Rattle.def_crash.proofs.BlockLemmas.{write_tears}
use Rattle.strat_array.proofs.blocks.write_block.Goals as goal

pub returns-clause-same : goal.returns-clause-same
returns-clause-same g c = λ free is.
    write_tears free (g.D.Disk.view c.args.disk.now) (g.D.Disk.view c.write_at.new.self) c.args.block c.args.bytes.now c.write_at.result is c.requires.fits.0
    c.write_at.ensures.images.only c.write_at.ensures.time c.write_at.ensures.ok c.write_at.ensures.err
