use Rattle.strat_memory.proofs.MemoryLemmas.{parent_made}
use Rattle.strat_memory.proofs.memory.grow.Goals as goal

pub add_child-requires-clause-fits : goal.add_child-requires-clause-fits
add_child-requires-clause-fits c =
    parent_made c.loop-p.p-index c.args.parents.now c.loop-p.tree.parents c.requires.fits c.loop-p-test.true c.loop-p.invariant.0
