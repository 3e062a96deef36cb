-- Entries of a level's arrays that are no leads, told group by group of entries that are marked with their places.
use Rattle.std.specs.Prelude.{◌≡◌, ◌<◌, ℕ, ◌||◌, not, Bool, false, List, [], length, map, filter, slice_get, slice_index_or, Some}
use Rattle.std.specs.List.{list_all}
use Rattle.strat_base.specs.Tree.{Parents}
use Rattle.strat_base.specs.Entries.{Entry, holds_entry}
use Rattle.def_state.specs.Level.{TaggedArray, Level}
use Rattle.def_state.specs.Live.{live}
use Rattle.def_split.specs.Groups.{grouped_entries, group_versions}
use Rattle.def_check.specs.Marked.{unmarked, is_from_run, kept_below}
use Rattle.def_check.specs.Told.{AreLeadsOf}
use Rattle.strat_check.specs.Sightings.{Sightings, IsSighted}
use Rattle.strat_check.specs.declared.strays.Strays.{Strays}

-- what was found of a level's array: whether an entry of a version below n is no lead of the level, and whether one
-- that is live at a version of its tag is none
pub record AreStraysOf (parents : Parents) (n : ℕ) (leads : List Entry) (a : TaggedArray)
    (s : Strays) : Type 0 where
  pub any : s.has_any ≡ not (list_all (holds_entry leads) (kept_below n a).content)
  pub live : s.is_live
      ≡ not (list_all (λ v. list_all (holds_entry leads) (live parents a.content v)) a.tag)

-- the leads of a level were sighted, and what was found of its arrays is so
pub record IsCountedLevel (parents : Parents) (level : Level) (found : List Strays)
    (s : Sightings) : Type 0 where
  pub groups : List (List Entry)
  pub leads : AreLeadsOf level groups
  pub sighted : IsSighted parents (group_versions groups) s
  pub strays : (i : ℕ) (a : TaggedArray) (of_array : Strays) → slice_get level.arrays i ≡ Some a
      → slice_get found i ≡ Some of_array
      → AreStraysOf parents (length parents) (grouped_entries groups) a of_array

-- the marked entries of a group that pass a test, without their marks
abbrev pub unmarked_where : (Entry → Bool) → List Entry → List Entry
unmarked_where p group = map unmarked (filter p group)

-- the run at a place has an entry in a group that is none of the group's leads
abbrev pub has_stray : (Entry → Bool) → ℕ → List Entry → Bool
has_stray is_lead i group =
    not (list_all (holds_entry (unmarked_where is_lead group))
    (unmarked_where (is_from_run i) group))

-- and one that is live at a version of a tag is none
abbrev pub has_live_stray : Parents → (Entry → Bool) → List ℕ → ℕ → List Entry → Bool
has_live_stray parents is_lead tag i group =
    not (list_all (λ v. list_all (holds_entry (unmarked_where is_lead group))
    (live parents (unmarked_where (is_from_run i) group) v)) tag)

-- what was found of the array at a place; nothing where there is none
abbrev pub strays_at : List Strays → ℕ → Strays
strays_at found i =
    slice_index_or found i (record { has_any = false; is_live = false; is_due = false })

-- one more group was looked at: what its strays are is kept of each array, by its tag
pub record AreNoted (parents : Parents) (is_lead : Entry → Bool) (tags : List (List ℕ))
    (group : List Entry) (old new : List Strays) : Type 0 where
  pub len : length new ≡ length old
  pub any : (i : ℕ) → i < length old
      → (strays_at new i).has_any ≡ ((strays_at old i).has_any || has_stray is_lead i group)
  pub live : (i : ℕ) → i < length old
      → (strays_at new i).is_live ≡ ((strays_at old i).is_live
      || has_live_stray parents is_lead (slice_index_or tags i []) i group)
