use Rattle.std.proofs.Common.{◌-◌}
use Rattle.std.specs.Prelude.{⊤}
use Rattle.strat_array.proofs.hints.Hints.guess.Given as goal

abbrev pub invariant-loop-first : goal.invariant-loop-first
invariant-loop-first l = ⊤

abbrev pub decreases-loop-first : goal.decreases-loop-first
decreases-loop-first l = l.last - l.first
