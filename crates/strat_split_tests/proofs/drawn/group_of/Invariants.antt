-- The items drawn so far.
use Rattle.strat_split_tests.specs.Groups.{IsGroupFrom}
use Rattle.strat_split_tests.proofs.drawn.group_of.Given as goal

abbrev pub invariant-loop-v : goal.invariant-loop-v
invariant-loop-v l = IsGroupFrom l.v l.versions l.group.items

abbrev pub decreases-loop-v : goal.decreases-loop-v
decreases-loop-v l = l.v
