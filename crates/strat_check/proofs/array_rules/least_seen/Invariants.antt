use Rattle.std.proofs.Common.{◌≡◌, get_or, map, take}
use Rattle.strat_check.specs.ArrayNumbers.{least_if}
use Rattle.strat_check.proofs.array_rules.least_seen.Given as goal

abbrev pub invariant-loop-v : goal.invariant-loop-v
invariant-loop-v l = l.least ≡ least_if (map (λ v. get_or l.mine.seen v 0) (take l.v-index l.tag))
