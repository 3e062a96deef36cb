use Rattle.std.proofs.Common.{arith}
use Rattle.strat_merge.proofs.KeepingLemmas.{rest_descends, item_below}
use Rattle.strat_merge.proofs.purging.keep_needed.Goals as goal

pub is_needed-requires-clause-kept : goal.is_needed-requires-clause-kept
is_needed-requires-clause-kept c = rest_descends c.loop-i.i c.loop-i.items c.args.items.now c.loop-i.invariant.rest c.requires.kept

pub is_needed-requires-clause-fits : goal.is_needed-requires-clause-fits
is_needed-requires-clause-fits c = item_below c.loop-i.i c.loop-i.items c.args.items.now _ _ c.loop-i.invariant.rest c.requires.fits (omega arith)
