use Rattle.std.proofs.Common.{◌≡◌, ◌++◌, drop}
use Rattle.strat_model.specs.Pairs.{range}
use Rattle.strat_model.proofs.plain_pairs.PlainPairs.range.Given as goal

abbrev pub invariant-loop-pair : goal.invariant-loop-pair
invariant-loop-pair l = range l.pair-items l.lo l.hi ≡ l.pairs.items ++ range (drop l.pair-index l.pair-items) l.lo l.hi
