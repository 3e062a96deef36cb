use Rattle.std.proofs.Common.{◌≡◌, drop}
use Rattle.std.specs.List.{list_all}
use Rattle.strat_check.specs.Fit.{is_fit_array}
use Rattle.strat_check.proofs.fit.are_fit_arrays.Given as goal

abbrev pub invariant-loop-array : goal.invariant-loop-array
invariant-loop-array l = list_all (is_fit_array l.horizon) (drop l.array-index l.arrays) ≡ list_all (is_fit_array l.horizon) l.arrays
