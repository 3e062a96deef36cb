-- The fields of a filter.
use Rattle.std.specs.Prelude.{◌<◌, ◌≤◌, Bool, List, length}
use Rattle.strat_filter.specs.Bits.{bits_of}
use Rattle.strat_filter.specs.declared.filter.Filter.TheInside.{Inside}

-- the bits that these fields keep
abbrev pub bits_kept : Inside → List Bool
bits_kept f = bits_of f.words.items

-- there are bits, and no more than a filter of the most entries has
pub record HasBits (f : Inside) : Type 0 where
  pub some : 0 < length f.words.items
  pub most : length f.words.items ≤ 4194304
