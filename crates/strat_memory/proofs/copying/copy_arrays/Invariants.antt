use Rattle.std.proofs.Common.{◌≡◌, take}
use Rattle.strat_memory.proofs.copying.copy_arrays.Given as goal

abbrev pub invariant-loop-array : goal.invariant-loop-array
invariant-loop-array l = l.copy ≡ take l.array-index l.arrays
