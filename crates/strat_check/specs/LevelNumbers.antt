-- The rules of a level, as they are told from numbers.
use Rattle.std.specs.Prelude.{◌≡◌, ℕ, ◌*◌, ◌^◌, nat_le, ◌==◌, ◌||◌, Bool, true, false, replicate, List, flat_map, fold, slice_index, slice_index_or, slice_set}
use Rattle.strat_base.specs.declared.descriptors.ArrayDesc.{ArrayDesc}
use Rattle.std.specs.List.{list_all, range_with_len}
use Rattle.strat_base.specs.declared.descriptors.LevelDesc.{LevelDesc}
use Rattle.strat_check.specs.Sightings.{Sightings}
use Rattle.strat_check.specs.declared.level_walk.Findings.{Findings}
use Rattle.strat_check.specs.declared.places.LevelTold.{LevelTold}

-- marks, with those of a tag set
abbrev pub marked_with : List Bool → List ℕ → List Bool
marked_with marks tag = fold (λ ms v. slice_set ms v true) marks tag

-- the marks of the versions below a horizon that are in the tags of arrays
abbrev pub marked_of : ℕ → List ArrayDesc → List Bool
marked_of horizon arrays =
    marked_with (replicate horizon false) (flat_map (λ a. a.versions) arrays)

-- b: a version is marked, or sees no key
abbrev pub is_quiet : List Bool → Sightings → ℕ → Bool
is_quiet marks sights v = slice_index_or marks v false || (slice_index sights.seen v == 0)

-- what is told of a level itself from these numbers
pub record IsLevelToldFrom (level : LevelDesc) (mem : ℕ) (leads : Sightings) (count : ℕ)
    (before : Findings) (told : LevelTold) : Type 0 where
  pub tagged : told.is_tagged ≡ list_all (is_quiet (marked_of level.horizon level.arrays) leads)
      (range_with_len 0 level.horizon)
  pub roomy : told.has_room ≡ nat_le count (mem * 2 ^ level.number)
  pub old : told.is_old ≡ nat_le level.horizon before.horizon
  pub settled : told.is_settled ≡ nat_le level.horizon before.lowest
