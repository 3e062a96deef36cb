use Rattle.std.proofs.Common.{◌≡◌, take}
use Rattle.strat_model.proofs.plain_pairs.PlainPairs.tell_from.Given as goal

abbrev pub invariant-loop-pair : goal.invariant-loop-pair
invariant-loop-pair l = l.out ≡ take l.pair-index l.pair-items
