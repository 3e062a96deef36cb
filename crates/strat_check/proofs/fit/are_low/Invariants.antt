use Rattle.std.proofs.Common.{◌≡◌, drop, nat_lt}
use Rattle.std.specs.List.{list_all}
use Rattle.strat_check.proofs.fit.are_low.Given as goal

abbrev pub invariant-loop-v : goal.invariant-loop-v
invariant-loop-v l = list_all (λ v. nat_lt v l.horizon) (drop l.v-index l.tag) ≡ list_all (λ v. nat_lt v l.horizon) l.tag
