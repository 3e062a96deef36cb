use Rattle.std.proofs.Common.{◌≡◌, ◌++◌, take, drop}
use Rattle.strat_model.specs.Pairs.{value_of, unset}
use Rattle.strat_model.proofs.plain_pairs.PlainPairs.find.Given as goal

abbrev pub invariant-loop-i : goal.invariant-loop-i
invariant-loop-i l = record {
  same_value : value_of (drop l.i l.pair-items) l.key ≡ value_of l.pair-items l.key;
  same_rest : unset l.key l.pair-items ≡ take l.i l.pair-items ++ unset l.key (drop l.i l.pair-items);
}
