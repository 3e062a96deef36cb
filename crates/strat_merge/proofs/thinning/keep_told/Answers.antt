use Rattle.std.proofs.Common.{arith}
use Rattle.strat_merge.proofs.KeepingLemmas.{rest_descends, item_below}
use Rattle.strat_merge.proofs.ThinningLemmas.{rest_pairs, item_pair}
use Rattle.strat_merge.proofs.thinning.keep_told.Goals as goal

pub is_told-requires-clause-kept : goal.is_told-requires-clause-kept
is_told-requires-clause-kept c = rest_descends c.loop-i.i c.loop-i.items c.args.items.now c.loop-i.invariant.rest c.requires.kept

pub is_told-requires-clause-fits : goal.is_told-requires-clause-fits
is_told-requires-clause-fits c = item_below c.loop-i.i c.loop-i.items c.args.items.now _ _ c.loop-i.invariant.rest c.requires.fits (omega arith)

pub is_told-requires-clause-room : goal.is_told-requires-clause-room
is_told-requires-clause-room c = (
  item_pair c.args.arena.now.pairs c.loop-i.i c.loop-i.items c.args.items.now _ c.loop-i.invariant.rest c.requires.room (omega arith),
  rest_pairs c.args.arena.now.pairs c.loop-i.i c.loop-i.items c.args.items.now c.loop-i.invariant.rest c.requires.room,
)
