-- A space in which just the blocks of contents are used.
use Rattle.std.specs.Prelude.{◌≡◌, ℕ, ◌+◌, ◌==◌, List, flat_map}
use Rattle.std.specs.List.{count_by}
use Rattle.strat_base.specs.declared.descriptors.ArrayDesc.{ArrayDesc}
use Rattle.strat_base.specs.declared.descriptors.Extent.{Extent}
use Rattle.strat_base.specs.declared.descriptors.LevelDesc.{LevelDesc}
use Rattle.strat_extent.specs.Blocks.{SpaceView, times_in, uses}
use Rattle.def_bytes.specs.Layout.{first_free}
use Rattle.def_publish.specs.Contents.{Contents, named_blocks}

-- how often contents name a block
abbrev pub times_named : Contents → ℕ → ℕ
times_named x b = count_by (λ other. other == b) (named_blocks x)

-- used are the blocks that contents name and those of some extents, and no other; no block stands there twice
pub record IsSpaceOf (s : SpaceView) (x : Contents) (others : List Extent) : Type 0 where
  pub first : s.first ≡ first_free x.sb.mem
  pub used : (b : ℕ) → uses s b ≡ times_named x b + times_in others b

-- one space has the blocks of these extents used beside those of another
pub record UsesMore (before : SpaceView) (xs : List Extent) (after : SpaceView) : Type 0 where
  pub first : after.first ≡ before.first
  pub used : (b : ℕ) → uses after b ≡ uses before b + times_in xs b

-- the extents of some arrays
abbrev pub extents_of : List ArrayDesc → List Extent
extents_of arrays = flat_map (λ a. a.extents) arrays

-- the arrays of some levels
abbrev pub arrays_in : List LevelDesc → List ArrayDesc
arrays_in levels = flat_map (λ level. level.arrays) levels
