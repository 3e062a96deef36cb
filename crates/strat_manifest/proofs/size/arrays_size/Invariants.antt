use Rattle.std.proofs.Common.{◌≡◌, ◌-◌, ◌^◌, length, take}
use Rattle.std.specs.Prelude.{min}
use Rattle.std.specs.List.{flat_map}
use Rattle.def_bytes.specs.Manifest.{array_bytes}
use Rattle.strat_manifest.proofs.size.arrays_size.Given as goal

abbrev pub invariant-loop-a : goal.invariant-loop-a
invariant-loop-a l = l.size ≡ min (length (flat_map array_bytes (take l.a-index l.arrays))) (2 ^ 64 - 1)
