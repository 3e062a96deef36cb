-- What is left waits.
use Rattle.std.proofs.Common.{◌≡◌, length}
use Rattle.strat_split.specs.Shares.{AreShares}
use Rattle.strat_split.proofs.shares.forget.Given as goal

abbrev pub invariant-loop : goal.invariant-loop
invariant-loop l = record {
  shares : AreShares l.shares;
  heads_len : length l.shares.heads.items ≡ length l.fn.shares.heads.items;
}

abbrev pub decreases-loop : goal.decreases-loop
decreases-loop l = length l.shares.waiting.items
