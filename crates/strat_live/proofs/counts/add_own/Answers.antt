use Rattle.std.proofs.Common.{◌≤◌, ℕ, get_or, arith}
use Rattle.strat_live.proofs.CountingLemmas.{own_fits}
use Rattle.strat_live.proofs.counts.add_own.Goals as goal

pub overflow_add-own : goal.overflow_add-own
overflow_add-own c =
    let each : (v : ℕ) → get_or c.loop-item.own v 0 ≤ 16777216 = own_fits c.args.own.now c.args.group.now c.loop-item.item-index 16777216 c.loop-item.own c.requires.fits c.requires.room c.loop-item.invariant in
    omega arith
