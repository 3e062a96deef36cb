use Rattle.strat_split.specs.Placing.{IsLowered}
use Rattle.strat_split.proofs.split.lower_leasts.Given as goal

abbrev pub invariant-loop-v : goal.invariant-loop-v
invariant-loop-v l = IsLowered l.labels l.live l.v l.fn.parts l.parts
