-- What was found of levels and their arrays, one after the other.
use Rattle.std.specs.Prelude.{◌≡◌, ◌≤◌, ◌<◌, ℕ, ◌-◌, ◌^◌, ◌&&◌, nat_le, not, min, List, ◌∷◌, ◌++◌, length, map, flat_map, sum_by, slice_get, slice_index_or, Some}
use Rattle.std.specs.List.{list_all, Contains}
use Rattle.strat_base.specs.Entries.{Entry, is_ascending}
use Rattle.def_check.specs.Told.{MayBeCounted}
use Rattle.def_split.specs.Groups.{grouped_entries}
use Rattle.def_state.specs.Level.{TaggedArray, Level, own_leads, level_leads, has_live_tagged, agrees, is_dense, is_led, is_drawn}
use Rattle.def_state.specs.Sound.{has_child_below, has_room, has_old_horizon, is_above_frozen, is_described, IsWellFormed}
use Rattle.def_state.specs.State.{State, versions_of, marks_of, journal_updates}
use Rattle.strat_check.specs.ArrayNumbers.{IsLevelSeen}
use Rattle.strat_check.specs.Places.{place_of, first_array_breach, first_in_arrays, first_in_levels}
use Rattle.strat_check.specs.Scanned.{have_low_versions}
use Rattle.strat_check.specs.Sightings.{Sightings}
use Rattle.strat_check.specs.Strays.{AreStraysOf}
use Rattle.strat_check.specs.declared.strays.Strays.{Strays}
use Rattle.strat_check.specs.declared.level_walk.ArraysTold.{ArraysTold}
use Rattle.strat_check.specs.declared.level_walk.Findings.{Findings}
use Rattle.strat_check.specs.declared.level_walk.Tables.{Tables}
use Rattle.strat_check.specs.Children.{first_from}
use Rattle.strat_base.specs.Tree.{Parents}
use Rattle.strat_tree.specs.Preorder.{IsPreorder}
use Rattle.strat_check.specs.declared.places.ArrayPlaces.{ArrayPlaces}
use Rattle.strat_check.specs.declared.places.Places.{Places}
use Rattle.strat_check.specs.declared.scan.Scan.{Scan}

-- what a scan tells of an array of a store of so many versions
abbrev pub scan_of : ℕ → TaggedArray → Scan
scan_of n a = record {
  ascends = is_ascending a.content;
  entries = length a.content;
  is_within = have_low_versions n a.content;
}

-- an array of a level of a state was scanned and its strays found
pub record IsArrayLooked (s : State) (on : Level) (a : TaggedArray) (groups : List (List Entry))
    (scan : Scan) (strays : Strays) (leads : Sightings) : Type 0 where
  pub level : IsLevelSeen s on groups leads
  pub here : Contains on.arrays a
  pub scanned : scan ≡ scan_of (length (versions_of s)) a
  pub few : length a.content ≤ 2 ^ 48
  pub strayed : AreStraysOf (versions_of s) (length (versions_of s)) (grouped_entries groups) a
      strays

-- all arrays of a level of a state were
pub record AreArraysLooked (s : State) (on : Level) (groups : List (List Entry))
    (scans : List Scan) (strays : List Strays) (leads : Sightings) : Type 0 where
  pub level : IsLevelSeen s on groups leads
  pub scanned : scans ≡ map (scan_of (length (versions_of s))) on.arrays
  pub few : sum_by (λ a. length a.content) on.arrays ≤ 2 ^ 48
  pub strayed : (i : ℕ) (a : TaggedArray) (x : Strays) → slice_get on.arrays i ≡ Some a
      → slice_get strays i ≡ Some x
      → AreStraysOf (versions_of s) (length (versions_of s)) (grouped_entries groups) a x

-- the first breaches of the rules of some arrays of a level
pub record ArePlacesOf (s : State) (on : Level) (arrays : List TaggedArray) (p : ArrayPlaces)
    : Type 0 where
  pub agreeing : place_of p.agreeing
      ≡ first_array_breach 99 on.number (agrees (versions_of s) on) arrays
  pub dense : place_of p.dense ≡ first_array_breach 100 on.number (is_dense (versions_of s)) arrays
  pub led : place_of p.led ≡ first_array_breach 101 on.number is_led arrays
  pub drawn : place_of p.drawn ≡ first_array_breach 102 on.number (is_drawn on) arrays
  pub described : place_of p.described ≡ first_array_breach 107 on.number (is_described s) arrays

-- the leads of some arrays
abbrev pub leads_of_arrays : List TaggedArray → ℕ
leads_of_arrays arrays = sum_by (λ a. length (own_leads a)) arrays

-- what was told of some arrays of a level
pub record AreArraysTold (s : State) (on : Level) (arrays : List TaggedArray) (told : ArraysTold)
    : Type 0 where
  pub places : ArePlacesOf s on arrays told.places
  pub leads : told.leads ≡ min (leads_of_arrays arrays) (2 ^ 64 - 1)

-- the first breaches of the rules of arrays in some levels of a state
pub record AreArrayFirsts (s : State) (levels : List Level) (p : ArrayPlaces) : Type 0 where
  pub agreeing : place_of p.agreeing ≡ first_in_arrays 99 (agrees (versions_of s)) levels
  pub dense : place_of p.dense ≡ first_in_arrays 100 (λ level. is_dense (versions_of s)) levels
  pub led : place_of p.led ≡ first_in_arrays 101 (λ level. is_led) levels
  pub drawn : place_of p.drawn ≡ first_in_arrays 102 is_drawn levels
  pub described : place_of p.described ≡ first_in_arrays 107 (λ level. is_described s) levels

-- the first breaches of rules in some levels of a state
pub record AreFirsts (s : State) (levels : List Level) (p : Places) : Type 0 where
  pub tagged : place_of p.tagged ≡ first_in_levels 98 (has_live_tagged (versions_of s)) levels
  pub arrays : AreArrayFirsts s levels p.arrays
  pub roomy : place_of p.roomy ≡ first_in_levels 104 (has_room s) levels
  pub old : place_of p.old ≡ first_in_levels 105 (has_old_horizon s) levels
  pub settled : place_of p.settled ≡ first_in_levels 106 (is_above_frozen s) levels

-- what was found of the first levels of a state
pub record IsFound (s : State) (levels : List Level) (x : Findings) : Type 0 where
  pub firsts : AreFirsts s levels x.places
  -- no version of an update in the journal or of a lead of these levels has a living child below a
  -- horizon of at most so many
  pub lowest : (h : ℕ) → h ≤ length (versions_of s) → nat_le h x.lowest
      ≡ list_all (λ e. not (has_child_below s h e.version))
      (journal_updates s ++ flat_map level_leads levels)
  -- a horizon of at most so many is no greater than the number of versions and those of these levels
  pub horizon : (h : ℕ) → nat_le h x.horizon
      ≡ (nat_le h (length (versions_of s)) && list_all (λ other. nat_le h other.horizon) levels)
  pub leads : x.leads ≡ min (sum_by (λ level. length (level_leads level)) levels) (2 ^ 64 - 1)

-- what recovery gives of a state, whatever its blocks hold, where its arrays ascend
pub record MayBeTold (s : State) : Type 0 where
  pub formed : IsWellFormed s
  pub known : length s.parents ≤ length (versions_of s)
  pub counted : (level : Level) → Contains s.levels level → MayBeCounted level
  pub old : (level : Level) → Contains s.levels level → level.horizon ≤ length s.parents
  pub few : (level : Level) → Contains s.levels level
      → sum_by (λ a. length a.content) level.arrays ≤ 2 ^ 48

-- a level of a state that may be told stands behind these, and its arrays were scanned
pub record IsNextLevel (s : State) (done rest : List Level) (on : Level) (scans : List Scan)
    : Type 0 where
  pub may : MayBeTold s
  pub split : s.levels ≡ done ++ on ∷ rest
  pub scanned : scans ≡ map (scan_of (length (versions_of s))) on.arrays

-- the tables of a check have a place for each version, and its order in the tree
pub record HaveRoomFor (parents : Parents) (t : Tables) : Type 0 where
  pub leads : length t.leads.own ≡ length parents
  pub array : length t.array.own ≡ length parents
  pub first : length t.first.items ≡ length parents
  pub leads_placed : IsPreorder (length parents) parents t.leads.order
  pub array_placed : IsPreorder (length parents) parents t.array.order

-- the least living child of each version of a state
pub record AreFirstChildren (s : State) (first : List ℕ) : Type 0 where
  pub len : length first ≡ length (versions_of s)
  pub each : (v : ℕ) → v < length (versions_of s)
      → slice_index_or first v (length (versions_of s))
      ≡ first_from (versions_of s) (marks_of s) 0 v
