-- The level that a promotion makes has the blocks that the promotion took.
use Rattle.std.specs.Prelude.{◌≡◌, List, [], map, Option, None, Some}
use Rattle.std.specs.List.{AllByRecursion}
use Rattle.strat_array.specs.Progress.{ArrayProgress}
use Rattle.strat_array.specs.Pushed.{AreMaximal}
use Rattle.strat_array.specs.Within.{AreWithin}
use Rattle.strat_base.specs.declared.descriptors.Extent.{Extent}
use Rattle.strat_base.specs.declared.descriptors.LevelDesc.{LevelDesc}

-- the blocks of each array of a level, if there is one
abbrev pub extents_made : Option LevelDesc → List (List Extent)
extents_made None = []
extents_made (Some level) = map (λ a. a.extents) level.arrays

-- the arrays of a level have the blocks of these writers, each those of one, in the same order; where there is no level there
-- is no writer
pub record OwnsItsBlocks (writers : List ArrayProgress) (made : Option LevelDesc) : Type 0 where
  pub owned : extents_made made ≡ map (λ w. w.extents) writers
  -- they are as large as they may be, and end at block numbers
  pub each : AllByRecursion (λ xs. AreMaximal xs × AreWithin xs) (extents_made made)
