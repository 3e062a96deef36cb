-- The fields of what hands out the numbers of an array's blocks.
use Rattle.std.specs.List.{range_with_len}
use Rattle.std.specs.Prelude.{ℕ, ◌+◌, ◌≤◌, List, ◌++◌, drop}
use Rattle.def_bytes.specs.Arrays.{blocks_of}
use Rattle.strat_array.specs.Within.{AreWithin}
use Rattle.strat_array.specs.declared.numbers.BlockNumbers.TheInside.{Inside}

-- the numbers that are left: those of a run, and those of the extents from a place on
abbrev pub numbers_left : Inside → List ℕ
numbers_left n = range_with_len n.left.start n.left.len ++ blocks_of (drop n.at n.extents)

-- no number that is left is above 4,294,967,294
pub record AreNumbers (n : Inside) : Type 0 where
  pub within : AreWithin n.extents
  pub fits : n.left.start + n.left.len ≤ 4294967295
