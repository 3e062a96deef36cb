-- What a call changes of the blocks that are used.
use Rattle.std.specs.Prelude.{◌≡◌, ℕ, ◌+◌, ◌<◌, ◌≤◌, true, List}
use Rattle.strat_base.specs.declared.descriptors.Extent.{Extent}
use Rattle.strat_extent.specs.Blocks.{SpaceView, times_in, total_len, is_used, is_free, uses, used_count}

-- the space after is the one before with the blocks of extents used too, of which none was used or stands twice
pub record IsMarked (before : SpaceView) (xs : List Extent) (after : SpaceView) : Type 0 where
  pub first : after.first ≡ before.first
  pub used : (b : ℕ) → uses after b ≡ uses before b + times_in xs b
  pub count : used_count after ≡ used_count before + total_len xs

-- the same blocks are used
pub record SameBlocks (before after : SpaceView) : Type 0 where
  pub first : after.first ≡ before.first
  pub used : (b : ℕ) → is_used after b ≡ is_used before b
  pub count : used_count after ≡ used_count before

-- each block of these extents may be taken, and none stands twice
pub record CanMark (s : SpaceView) (xs : List Extent) : Type 0 where
  pub free : (b : ℕ) → 0 < times_in xs b → is_free s b ≡ true
  pub once : (b : ℕ) → times_in xs b ≤ 1

-- each block of these extents is used, and none stands twice
abbrev pub CanGive : SpaceView → List Extent → Type 0
CanGive s xs = (b : ℕ) → times_in xs b ≤ uses s b

-- each block from the first on below one of these is used
abbrev pub AreLowest : List Extent → SpaceView → Type 0
AreLowest xs s = (a b : ℕ) → 0 < times_in xs a → s.first ≤ b → b < a → is_used s b ≡ true
