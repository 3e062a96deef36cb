use Rattle.std.specs.Prelude.{⊤}
use Rattle.strat_array.proofs.hints.word.Given as goal

abbrev pub invariant-loop-i : goal.invariant-loop-i
invariant-loop-i l = ⊤
