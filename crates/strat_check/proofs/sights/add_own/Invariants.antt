-- The versions so far were counted.
use Rattle.std.proofs.Common.{take, eqb}
use Rattle.std.specs.List.{count_by}
use Rattle.strat_check.specs.Sums.{HaveGrown}
use Rattle.strat_check.proofs.sights.add_own.Given as goal

abbrev pub invariant-loop-v : goal.invariant-loop-v
invariant-loop-v l = HaveGrown (λ v. count_by (λ u. eqb u v) (take l.v-index l.versions)) l.fn.own l.own
