use Rattle.std.proofs.Common.{◌≡◌, drop}
use Rattle.std.specs.List.{list_all}
use Rattle.def_recovery.specs.Opening.{is_filled}
use Rattle.strat_memory.proofs.belonging.are_filled.Given as goal

abbrev pub invariant-loop-array : goal.invariant-loop-array
invariant-loop-array l = list_all is_filled (drop l.array-index l.arrays) ≡ list_all is_filled l.arrays
