-- The shallow levels of a state are replaced by at most one level, wherever it comes from.
use Rattle.std.specs.Prelude.{◌≡◌, ◌<◌, ◌≤◌, ℕ, ◌*◌, ◌^◌, List, ◌++◌, length, find, flat_map, IsTrue}
use Rattle.std.specs.List.{list_all, AllByRecursion}
use Rattle.strat_base.specs.Entries.{Entry, is_at, holds_entry}
use Rattle.def_state.specs.Maps.{value_over}
use Rattle.def_state.specs.Level.{Level, level_leads, IsStratified}
use Rattle.def_state.specs.Sound.{is_described, has_ascending_entries}
use Rattle.def_state.specs.State.{State, versions_of, is_living}
use Rattle.def_promote.specs.Union.{IsUnion}
use Rattle.def_promote.specs.Promoted.{told_by, Takeable}

-- a level may stand as level j of a state
pub record IsNewLevel (s : State) (j : ℕ) (level : Level) : Type 0 where
  pub number : level.number ≡ j
  pub horizon : level.horizon ≡ length (versions_of s)
  pub filled : 0 < length level.arrays
  pub stratified : IsStratified (versions_of s) level
  pub room : length (level_leads level) ≤ s.mem * 2 ^ j
  pub described : IsTrue (list_all (is_described s) level.arrays)
  pub ascending : IsTrue (list_all has_ascending_entries level.arrays)

-- entries are worth a union: some of it, they give each living version the same values over the kept levels
pub record IsWorth (s : State) (kept : List Level) (entries over : List Entry) : Type 0 where
  pub inside : IsTrue (list_all (holds_entry entries) over)
  pub values : (v : ℕ) (key : List ℕ) → IsTrue (is_living s v)
      → value_over (versions_of s) (over ++ flat_map level_leads kept) v key
      ≡ value_over (versions_of s) (entries ++ flat_map level_leads kept) v key

-- at most one fresh level has entries that are worth what the journal and the taken levels said
pub record Replaces (s : State) (j : ℕ) (taken kept fresh : List Level) (entries over : List Entry)
    : Type 0 where
  pub takes : Takeable s j taken kept
  pub union : IsUnion (told_by s taken) entries
  pub one : length fresh ≤ 1
  pub each : AllByRecursion (IsNewLevel s j) fresh
  pub leads : (key : List ℕ) (u : ℕ)
      → find (is_at key u) (flat_map level_leads fresh) ≡ find (is_at key u) over
  pub worth : IsWorth s kept entries over
