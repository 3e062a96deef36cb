use Rattle.std.proofs.Common.{◌≡◌, ◌-◌, ◌^◌, min, take}
use Rattle.strat_check.specs.ArrayNumbers.{own_sum}
use Rattle.strat_check.proofs.array_rules.own_of_tag.Given as goal

abbrev pub invariant-loop-v : goal.invariant-loop-v
invariant-loop-v l = l.own ≡ min (own_sum l.mine (take l.v-index l.tag)) (2 ^ 64 - 1)
