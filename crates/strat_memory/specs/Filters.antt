-- The filters of the arrays that a store made since it was opened.
use Rattle.std.specs.Prelude.{◌≡◌, ℕ, ◌-◌, ◌++◌, ◌∷◌, nat_le, not, Bool, false, if◌then◌else◌, List, [], Contains, Option, Some, None, drop, replicate, slice_index_or}
use Rattle.strat_base.specs.Entries.{Entry}
use Rattle.strat_base.specs.declared.descriptors.ArrayDesc.{ArrayDesc}
use Rattle.def_bytes.specs.Arrays.{blocks_of, entries_on}
use Rattle.def_crash.specs.Image.{Image}
use Rattle.def_state.specs.Level.{Level, TaggedArray}
use Rattle.strat_filter.specs.Bits.{may_hold}
use Rattle.strat_filter.specs.Keys.{IsFilterOf}

-- the filters of a level's arrays, which are numbered from one on: None where none is kept
pub record LevelFilters : Type 0 where
  pub first : ℕ
  pub kept : List (Option (List Bool))

-- no filters
abbrev pub no_filters : LevelFilters
no_filters = record { first = 0; kept = [] }

-- the filter of an array among those of its level
abbrev pub filter_of : LevelFilters → ℕ → Option (List Bool)
filter_of filters id =
    if nat_le filters.first id then slice_index_or filters.kept (id - filters.first) None else None

-- the filters of the level of a number, counted from 1
abbrev pub filters_of_level : List LevelFilters → ℕ → LevelFilters
filters_of_level filters number =
    if nat_le 1 number then slice_index_or filters (number - 1) no_filters else no_filters

-- the filter of an array in the level of a number; none where the number is 0 or past the last
abbrev pub filter_at : List LevelFilters → ℕ → ℕ → Option (List Bool)
filter_at filters number id = filter_of (filters_of_level filters number) id

-- a filter, if there is one, refuses a key
abbrev pub is_refused : Option (List Bool) → List ℕ → Bool
is_refused None key = false
is_refused (Some bits) key = not (may_hold bits key)

-- a filter of an array in a level refuses a key
abbrev pub filter_refuses : List LevelFilters → ℕ → ℕ → List ℕ → Bool
filter_refuses filters number id key = is_refused (filter_at filters number id) key

-- filters are of exactly the keys of the arrays of contents
pub record AreFiltersOf (levels : List Level) (filters : List LevelFilters) : Type 0 where
  pub each : (level : Level) (t : TaggedArray) (bits : List Bool) → Contains levels level
      → Contains level.arrays t → filter_at filters level.number t.id ≡ Some bits
      → IsFilterOf bits t.content

-- filters are of exactly the keys of these arrays, as an image has them
pub record AreFiltersOn (g : Image) (arrays : List ArrayDesc) (filters : LevelFilters)
    : Type 0 where
  pub each : (a : ArrayDesc) (entries : List Entry) (bits : List Bool) → Contains arrays a
      → filter_of filters a.id ≡ Some bits → entries_on g (blocks_of a.extents) ≡ Some entries
      → IsFilterOf bits entries

-- the filters after the levels down to a number became one of that number, whose filters these are
abbrev pub filters_after : List LevelFilters → ℕ → LevelFilters → List LevelFilters
filters_after filters target made =
    replicate (target - 1) no_filters ++ made ∷ drop target filters
