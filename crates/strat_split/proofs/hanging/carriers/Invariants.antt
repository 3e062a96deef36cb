-- The carriers so far.
use Rattle.std.proofs.Common.{◌≡◌, take}
use Rattle.strat_split.specs.Hanging.{carriers_of}
use Rattle.strat_split.proofs.hanging.carriers.Given as goal

abbrev pub invariant-loop-part : goal.invariant-loop-part
invariant-loop-part l = l.list.items ≡ carriers_of l.plan.part_of (take l.part-index l.plan.parts)
