use Rattle.std.proofs.Common.{◌≡◌, length}
use Rattle.strat_live.specs.Counting.{AreSummed}
use Rattle.strat_live.proofs.counts.sum_down.Given as goal

abbrev pub invariant-loop-v : goal.invariant-loop-v
invariant-loop-v l = record {
  len : length l.live ≡ length l.begun;
  summed : AreSummed l.parents l.begun l.live l.v;
}
