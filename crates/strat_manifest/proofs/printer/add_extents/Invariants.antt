use Rattle.std.proofs.Common.{◌≡◌, ◌≤◌, ◌+◌, ◌*◌, ◌++◌, take}
use Rattle.std.specs.List.{flat_map}
use Rattle.std.specs.Prelude.{vec_len, vec_capacity}
use Rattle.def_bytes.specs.Manifest.{extent_bytes}
use Rattle.strat_manifest.proofs.printer.add_extents.Given as goal

abbrev pub invariant-loop-x : goal.invariant-loop-x
invariant-loop-x l = record {
  text : l.out.items ≡ l.fn.out.items ++ flat_map extent_bytes (take l.x-index l.xs);
  size : vec_len l.out ≡ vec_len l.fn.out + 8 * l.x-index;
  room : vec_capacity l.fn.out ≤ vec_capacity l.out;
}
