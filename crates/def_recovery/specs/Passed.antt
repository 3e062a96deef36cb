-- What an opening has tested of a state beside that it is well formed. It holds whether the state is
-- sound or not, and soundness does not give it.
use Rattle.std.specs.Prelude.{◌≤◌, ◌<◌, ℕ, ◌+◌, ◌*◌, ◌&&◌, Bool, List, length, map, flat_map, slice_index, IsTrue}
use Rattle.std.specs.List.{list_all, AllByRecursion}
use Rattle.strat_base.specs.Entries.{Entry}
use Rattle.strat_base.specs.EntryBytes.{is_markable}
use Rattle.strat_base.specs.Sizes.{is_key}
use Rattle.def_bytes.specs.Manifest.{is_rising}
use Rattle.def_bytes.specs.SuperBlock.{AreLimits}
use Rattle.def_state.specs.Level.{TaggedArray, Level, is_distinct}
use Rattle.def_state.specs.State.{State, versions_of, journal_updates, changes_of}

-- the key of an entry has a size as it may have, and so has its value, if it has one
abbrev pub is_sized : Entry → Bool
is_sized e = is_key e.key && is_markable e.value

-- the arrays of a state, the shallowest level first
abbrev pub arrays_of : State → List TaggedArray
arrays_of s = flat_map (λ level. level.arrays) s.levels

-- an array has a number below the next one, versions that ascend, and entries
pub record IsTestedArray (next_array : ℕ) (a : TaggedArray) : Type 0 where
  pub numbered : 1 ≤ a.id
  pub below_next : a.id < next_array
  pub tagged : 1 ≤ length a.tag
  pub rising : IsTrue (is_rising a.tag)
  pub counted : 1 ≤ a.entries
  pub sized : IsTrue (list_all is_sized a.content)

-- a level has a horizon, and its arrays stand in the order of their first versions
pub record IsTestedLevel (next_array : ℕ) (level : Level) : Type 0 where
  pub aged : 1 ≤ level.horizon
  pub each : AllByRecursion (IsTestedArray next_array) level.arrays
  pub ordered : IsTrue (is_rising (map (λ a. slice_index a.tag 0) level.arrays))

-- a state is within its limits, and so are its counts, its arrays and its journal
pub record PassesOpening (s : State) : Type 0 where
  pub limits : AreLimits s.mem s.changes_max s.versions_max
  -- no more updates than changes: that a store stays paid (`IsPaid`) rests on this, since its bounds
  -- are in changes, and a publication writes by updates
  pub few_updates : s.updates ≤ s.changes
  pub few_changes : changes_of s ≤ s.changes_max
  pub few_versions : length (versions_of s) ≤ s.versions_max
  pub next_least : 1 ≤ s.next_array
  pub next_most : s.next_array ≤ 16384 * s.changes + 1
  pub written_most : s.written ≤ 33554432 * s.changes
  pub compacted_most : s.compacted ≤ 33554432 * s.changes
  pub distinct : IsTrue (is_distinct (map (λ a. a.id) (arrays_of s)))
  pub tested : AllByRecursion (IsTestedLevel s.next_array) s.levels
  pub sized : IsTrue (list_all is_sized (journal_updates s))
