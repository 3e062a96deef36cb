-- What a get finds in the levels of a store where it asks the filters of their arrays first.
use Rattle.std.specs.List.{range_with_len}
use Rattle.std.specs.Prelude.{◌≡◌, ℕ, ◌==◌, Bool, if◌then◌else◌, List, [], length, map, filter_map, Contains, Option, Some, None, unwrap_or, option_and_then}
use Rattle.strat_base.specs.Entries.{Entry}
use Rattle.strat_base.specs.Tree.{Parents}
use Rattle.strat_base.specs.declared.descriptors.ArrayDesc.{ArrayDesc}
use Rattle.strat_base.specs.declared.descriptors.LevelDesc.{LevelDesc}
use Rattle.def_crash.specs.Image.{Image}
use Rattle.def_bytes.specs.Arrays.{blocks_of, entries_on}
use Rattle.def_state.specs.LookUp.{Reading, looked_up}
use Rattle.def_state.specs.Reading.{live_of}
use Rattle.strat_cursor.specs.Looking.{asked_of_level}
use Rattle.strat_level.specs.Levels.{level_numbered}
use Rattle.strat_memory.specs.Filters.{LevelFilters, filter_at, filter_refuses}

-- what an array in the level of a number shows a get of a key: what its blocks hold in an image, and nothing where its filter
-- refuses the key
abbrev pub shown_unless_refused : Image → List LevelFilters → ℕ → ArrayDesc → List ℕ → List Entry
shown_unless_refused f filters number a key =
    if filter_refuses filters number a.id key then [] else
    unwrap_or (entries_on f (blocks_of a.extents)) []

-- levels as their descriptors, an image and these filters give them; an array stands with the number of its level
abbrev pub on_disk_filtered : Image → List LevelFilters → Reading LevelDesc (ℕ × ArrayDesc)
on_disk_filtered f filters = record {
  horizon = λ level. level.horizon;
  arrays = λ level. map (λ a. (level.number, a)) level.arrays;
  tag = λ one. one.1.versions;
  shown = λ one key. shown_unless_refused f filters one.0 one.1 key;
}

-- the value of a key at a version that these bytes have for a store with these filters, this tree, these lists of level 0, the
-- newest first, and the descriptors of these levels
abbrev pub asked_filtered : Image → List LevelFilters → Parents → List (List Entry)
    → List LevelDesc → ℕ → List ℕ → Option (List ℕ)
asked_filtered f filters parents zeros levels v key =
    option_and_then (λ e. e.value)
    (looked_up (on_disk_filtered f filters) parents zeros levels v key)

-- what an array in the level of a number says of a key at a version
abbrev pub filtered_says : Image → List LevelFilters → Parents → ℕ → ℕ → List ℕ
    → Option ArrayDesc → Option Entry
filtered_says f filters parents number v key None = None
filtered_says f filters parents number v key (Some a) =
    live_of parents (shown_unless_refused f filters number a key) v key

-- each level has the number of its place
abbrev pub AreNumberedByPlace : List (Option LevelDesc) → Type 0
AreNumberedByPlace levels = (number : ℕ) (level : LevelDesc)
    → level_numbered levels number ≡ Some level → level.number ≡ number

-- the array that is asked at a version in the level of a number, unless its filter refuses a key
abbrev pub unrefused_of_level : List LevelFilters → Parents → List (Option LevelDesc) → ℕ → ℕ
    → List ℕ → Option ArrayDesc
unrefused_of_level filters parents levels number v key =
    option_and_then (λ a. if filter_refuses filters number a.id key then None else Some a)
    (asked_of_level parents levels number v)

-- of each level that array, if it has one, the shallowest level's first: the arrays that a get of the key may read
abbrev pub arrays_unrefused : List LevelFilters → Parents → List (Option LevelDesc) → ℕ
    → List ℕ → List ArrayDesc
arrays_unrefused filters parents levels v key =
    filter_map (λ number. unrefused_of_level filters parents levels number v key)
    (range_with_len 1 (length levels))

-- an array has this number
abbrev pub has_id : ℕ → ArrayDesc → Bool
has_id id a = a.id == id

-- the level of a number has an array of an id, and a filter of it is kept
pub record KeepsFilterAt (filters : List LevelFilters) (levels : List (Option LevelDesc))
    (number id : ℕ) : Type 0 where
  pub level : LevelDesc
  pub array : ArrayDesc
  pub bits : List Bool
  pub placed : level_numbered levels number ≡ Some level
  pub listed : Contains level.arrays array
  pub named : array.id ≡ id
  pub kept : filter_at filters number id ≡ Some bits

-- one of the levels does
abbrev pub KeepsFilter : List LevelFilters → List (Option LevelDesc) → ℕ → Type 0
KeepsFilter filters levels id = (number : ℕ) × KeepsFilterAt filters levels number id
