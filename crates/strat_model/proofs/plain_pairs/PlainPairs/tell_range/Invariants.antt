use Rattle.std.proofs.Common.{◌≡◌, ◌≤◌, ◌++◌, length, drop}
use Rattle.strat_model.specs.Pairs.{range}
use Rattle.strat_model.proofs.plain_pairs.PlainPairs.tell_range.Given as goal

abbrev pub invariant-loop-pair : goal.invariant-loop-pair
invariant-loop-pair l = record {
  exposed : range l.pair-items l.lo l.hi ≡ l.out ++ range (drop l.pair-index l.pair-items) l.lo l.hi;
  few : length l.out ≤ l.limit;
}
