use Rattle.std.proofs.Common.{◌≡◌, ℕ, List, ◌++◌, take, drop}
use Rattle.strat_model.specs.Pairs.{set}
use Rattle.strat_model.proofs.plain_pairs.PlainPairs.search.Given as goal

abbrev pub invariant-loop-i : goal.invariant-loop-i
invariant-loop-i l = (value : List ℕ) → set l.key value l.pair-items ≡ take l.i l.pair-items ++ set l.key value (drop l.i l.pair-items)
