use Rattle.std.proofs.Common.{take}
use Rattle.strat_extent.specs.Change.{IsMarked}
use Rattle.strat_extent.proofs.space.Space.give_runs.Given as goal

abbrev pub invariant-loop-run : goal.invariant-loop-run
invariant-loop-run l = IsMarked l.self (take l.run-index l.runs) l.fn.self
