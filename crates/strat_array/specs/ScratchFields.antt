-- The fields of a scratch.
use Rattle.std.specs.Prelude.{◌≡◌, length, Option, IsSome, IfSome, option_map}
use Rattle.def_bytes.specs.Block.{block_in}
use Rattle.strat_block.specs.Places.{entries_of_block}
use Rattle.strat_array.specs.Kept.{Kept}
use Rattle.strat_array.specs.declared.scratch.Scratch.TheInside.{Inside}

-- the block that these fields hold
abbrev pub kept_in : Inside → Option Kept
kept_in s = option_map (λ k. ((k.0, k.1), entries_of_block s.bytes.items)) s.holds

-- there is room for a block, and what is held is one
pub record HoldsBlock (s : Inside) : Type 0 where
  pub len : length s.bytes.items ≡ 4096
  pub block : IfSome s.holds (λ k. IsSome (block_in s.bytes.items))
