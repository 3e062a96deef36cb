use Rattle.std.proofs.Common.{◌≤◌, ◌+◌, arith, sum, get_or}
use Rattle.std.specs.Option.{option_map_or}
use Rattle.strat_base.specs.Tree.{parent_of}
use Rattle.strat_live.proofs.CountingLemmas.{next_small}
use Rattle.strat_live.proofs.counts.sum_down.Goals as goal

pub overflow_add-live : goal.overflow_add-live
overflow_add-live c =
    let le : get_or c.args.begun.now c.loop-v.v 0 + option_map_or (λ p. get_or c.loop-v.live p 0) (parent_of c.args.parents.now c.loop-v.v) 0 ≤ sum c.args.begun.now = next_small c.args.parents.now c.requires.kept c.args.begun.now c.loop-v.live c.loop-v.v c.loop-v-test.true c.loop-v.invariant.summed in
    omega arith
