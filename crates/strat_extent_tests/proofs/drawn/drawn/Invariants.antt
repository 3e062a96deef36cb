-- What was taken and not given back is used, and no more calls went well than were made.
use Rattle.std.proofs.Common.{◌≤◌}
use Rattle.strat_extent_tests.specs.Held.{AreHeld}
use Rattle.strat_extent_tests.proofs.drawn.drawn.Given as goal

abbrev pub invariant-loop-n : goal.invariant-loop-n
invariant-loop-n l = record { held : AreHeld l.space l.parts.items; few : l.alike ≤ l.n }
