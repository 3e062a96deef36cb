use Rattle.strat_block_tests.proofs.FrontLemmas.{front_ascends, one_fits}
use Rattle.strat_block_tests.proofs.worked.filled.Goals as goal

pub push-requires-clause-fits : goal.push-requires-clause-fits
push-requires-clause-fits c = one_fits c.args.entries.now c.loop-i.i _ c.requires.fits c.loop-i-test.true

pub push-requires-clause-kept : goal.push-requires-clause-kept
push-requires-clause-kept c = rw c.loop-i.invariant (front_ascends c.args.entries.now c.loop-i.i _ c.requires.kept c.loop-i-test.true)
