use Rattle.std.proofs.Common.{◌≡◌, take}
use Rattle.std.specs.List.{sum_by}
use Rattle.strat_level.proofs.index.sum_of_leads.Given as goal

abbrev pub invariant-loop-array : goal.invariant-loop-array
invariant-loop-array l = l.leads ≡ sum_by (λ a. a.leads) (take l.array-index l.arrays)
