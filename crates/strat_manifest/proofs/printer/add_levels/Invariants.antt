use Rattle.std.proofs.Common.{◌≡◌, ◌≤◌, ◌+◌, ◌++◌, length, take}
use Rattle.std.specs.List.{flat_map}
use Rattle.std.specs.Prelude.{vec_len, vec_capacity}
use Rattle.def_bytes.specs.Manifest.{level_bytes}
use Rattle.strat_manifest.proofs.printer.add_levels.Given as goal

abbrev pub invariant-loop-level : goal.invariant-loop-level
invariant-loop-level l = record {
  text : l.out.items ≡ l.fn.out.items ++ flat_map level_bytes (take l.level-index l.levels);
  size : vec_len l.out ≡ vec_len l.fn.out + length (flat_map level_bytes (take l.level-index l.levels));
  room : vec_capacity l.fn.out ≤ vec_capacity l.out;
}
