use Rattle.std.proofs.Common.{◌≡◌, drop}
use Rattle.std.specs.List.{slice_get}
use Rattle.def_bytes.specs.Arrays.{blocks_of}
use Rattle.strat_array.proofs.place.block_at.Given as goal

abbrev pub invariant-loop-x : goal.invariant-loop-x
invariant-loop-x l = slice_get (blocks_of l.extents) l.index ≡ slice_get (blocks_of (drop l.x-index l.extents)) l.rest
