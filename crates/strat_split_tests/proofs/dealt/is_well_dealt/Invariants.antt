-- The parts behind are still to come.
use Rattle.std.proofs.Common.{◌-◌, length}
use Rattle.strat_split.specs.Dealing.{IsDealing}
use Rattle.strat_split_tests.proofs.dealt.is_well_dealt.Given as goal

abbrev pub invariant-loop-q : goal.invariant-loop-q
invariant-loop-q l = IsDealing l.tree.parents l.plan l.group l.dealer

abbrev pub decreases-loop-q : goal.decreases-loop-q
decreases-loop-q l = length l.plan.parts - l.dealer.from
