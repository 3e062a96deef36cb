use Rattle.std.proofs.Common.{◌≡◌, take}
use Rattle.strat_check.specs.LevelNumbers.{marked_with}
use Rattle.strat_check.proofs.level_rules.mark_tag.Given as goal

abbrev pub invariant-loop-v : goal.invariant-loop-v
invariant-loop-v l = l.marks ≡ marked_with l.fn.marks (take l.v-index l.tag)
