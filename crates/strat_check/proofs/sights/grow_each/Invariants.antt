-- The numbers of the versions so far have grown.
use Rattle.std.proofs.Common.{take, cond, eqb}
use Rattle.std.specs.List.{sum_by}
use Rattle.strat_check.specs.Sums.{HaveGrown}
use Rattle.strat_check.proofs.sights.grow_each.Given as goal

abbrev pub invariant-loop-b : goal.invariant-loop-b
invariant-loop-b l = HaveGrown (λ v. sum_by (λ x. cond (eqb x.version v) l.by 0) (take l.b-index l.bare)) l.fn.numbers l.numbers
