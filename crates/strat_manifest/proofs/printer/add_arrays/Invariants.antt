use Rattle.std.proofs.Common.{◌≡◌, ◌≤◌, ◌+◌, ◌++◌, length, take}
use Rattle.std.specs.List.{flat_map}
use Rattle.std.specs.Prelude.{vec_len, vec_capacity}
use Rattle.def_bytes.specs.Manifest.{array_bytes}
use Rattle.strat_manifest.proofs.printer.add_arrays.Given as goal

abbrev pub invariant-loop-a : goal.invariant-loop-a
invariant-loop-a l = record {
  text : l.out.items ≡ l.fn.out.items ++ flat_map array_bytes (take l.a-index l.arrays);
  size : vec_len l.out ≡ vec_len l.fn.out + length (flat_map array_bytes (take l.a-index l.arrays));
  room : vec_capacity l.fn.out ≤ vec_capacity l.out;
}
