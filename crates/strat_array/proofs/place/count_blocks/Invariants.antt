use Rattle.std.proofs.Common.{◌≡◌, ◌+◌, drop, length}
use Rattle.def_bytes.specs.Arrays.{blocks_of}
use Rattle.strat_array.proofs.place.count_blocks.Given as goal

abbrev pub invariant-loop-x : goal.invariant-loop-x
invariant-loop-x l = l.n + length (blocks_of (drop l.x-index l.extents)) ≡ length (blocks_of l.extents)
