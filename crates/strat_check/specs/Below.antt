-- The versions below a number.
use Rattle.std.specs.Prelude.{ℕ, List}
use Rattle.std.specs.List.{range_with_len}

-- the versions below a number, as a tag
abbrev pub versions_below : ℕ → List ℕ
versions_below n = range_with_len 0 n
