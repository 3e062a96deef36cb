use Rattle.std.proofs.Common.{◌≡◌, ◌-◌, ◌^◌, length, min, take}
use Rattle.def_publish.specs.Occupied.{arrays_in}
use Rattle.strat_publish.proofs.checkpoint.count_arrays.Given as goal

abbrev pub invariant-loop-level : goal.invariant-loop-level
invariant-loop-level l = l.n ≡ min (length (arrays_in (take l.level-index l.levels))) (2 ^ 64 - 1)
