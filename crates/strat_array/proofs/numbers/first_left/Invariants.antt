use Rattle.std.proofs.Common.{◌≡◌, ◌≤◌, ◌+◌, ◌-◌, ◌++◌, drop, length}
use Rattle.std.specs.List.{range_with_len}
use Rattle.def_bytes.specs.Arrays.{blocks_of}
use Rattle.strat_array.proofs.numbers.first_left.Given as goal

abbrev pub invariant-loop-first : goal.invariant-loop-first
invariant-loop-first l = record {
  same : range_with_len l.first.start l.first.len ++ blocks_of (drop l.at l.extents) ≡ range_with_len l.fn.left.start l.fn.left.len ++ blocks_of (drop l.initial.at l.extents);
  fits : l.first.start + l.first.len ≤ 4294967295;
}

abbrev pub decreases-loop-first : goal.decreases-loop-first
decreases-loop-first l = length l.extents - l.at
