use Rattle.std.proofs.Common.{◌-◌}
use Rattle.strat_level.proofs.TargetLemmas.{IsSearched}
use Rattle.strat_level.proofs.depth.target.Given as goal

abbrev pub invariant-loop-room : goal.invariant-loop-room
invariant-loop-room l = IsSearched l.leads l.mem l.j l.total l.room

abbrev pub decreases-loop-room : goal.decreases-loop-room
decreases-loop-room l = 22 - l.j
