-- Blocks that a writer takes from a space.
use Rattle.std.specs.Prelude.{◌≡◌, ℕ, ◌+◌, ◌-◌, ◌≤◌, ◌<◌, ◌==◌, ◌||◌, true, List, ◌++◌, length, Contains}
use Rattle.strat_base.specs.declared.descriptors.Extent.{Extent}
use Rattle.strat_extent.specs.Blocks.{SpaceView, times_in, is_used, is_free, uses, used_count}
use Rattle.def_bytes.specs.Arrays.{blocks_of}

-- a block may be taken
abbrev pub HasFreeBlock : SpaceView → Type 0
HasFreeBlock s = used_count s + 1 ≤ 4294967295 - s.first

-- these blocks are used
abbrev pub AreUsed : SpaceView → List ℕ → Type 0
AreUsed s blocks = (b : ℕ) → Contains blocks b → is_used s b ≡ true

-- the lowest free block became used
pub record IsLowestTaken (before : SpaceView) (b : ℕ) (after : SpaceView) : Type 0 where
  pub free : is_free before b ≡ true
  pub used : (c : ℕ) → is_used after c ≡ (is_used before c || (b == c))
  pub lowest : (c : ℕ) → before.first ≤ c → c < b → is_used before c ≡ true
  pub first : after.first ≡ before.first
  pub count : used_count after ≡ used_count before + 1

-- at most one block became used, which was free, and stands behind the others of the extents now
pub record TakesBlock (before after : SpaceView) (old new : List Extent) : Type 0 where
  pub taken : List ℕ
  pub few : length taken ≤ 1
  pub blocks : blocks_of new ≡ blocks_of old ++ taken
  pub free : (b : ℕ) → Contains taken b → is_free before b ≡ true
  pub used : (b : ℕ) → uses after b + times_in old b ≡ uses before b + times_in new b
  pub first : after.first ≡ before.first
  pub count : used_count after ≡ used_count before + length taken
