use Rattle.std.proofs.Common.{◌≡◌, drop}
use Rattle.std.specs.List.{list_all}
use Rattle.strat_check.specs.ArrayNumbers.{sees_same}
use Rattle.strat_check.proofs.array_rules.tag_sees_same.Given as goal

abbrev pub invariant-loop-v : goal.invariant-loop-v
invariant-loop-v l = list_all (sees_same l.mine l.leads) (drop l.v-index l.tag) ≡ list_all (sees_same l.mine l.leads) l.tag
