-- A compaction: the journal and all levels become one level, and what says nothing is left out.
use Rattle.std.specs.Prelude.{◌≡◌, ◌≤◌, ℕ, ◌+◌, ◌*◌, ◌^◌, List, length, map, sum_by}
use Rattle.strat_base.specs.declared.limits.TheConstants.{LEVELS}
use Rattle.strat_base.specs.Entries.{Entry}
use Rattle.def_state.specs.Level.{Level, level_leads}
use Rattle.def_state.specs.Reading.{level_zero}
use Rattle.def_state.specs.State.{State, versions_of, marks_of}
use Rattle.def_split.specs.Groups.{grouped_entries, AreGroups, SplitsGroups, level_of_groups}
use Rattle.def_split.specs.Plan.{Plan, horizon_of}
use Rattle.def_split.specs.Planned.{planned_level, IsPlan}
use Rattle.def_promote.specs.Union.{IsUnion}
use Rattle.def_promote.specs.Promoted.{told_by, promoted, level_if}
use Rattle.def_promote.specs.Thin.{thinned}

-- the journal and all levels have room in level j
pub record HasRoomForAll (s : State) (j : ℕ) : Type 0 where
  pub least : 1 ≤ j
  pub most : j ≤ LEVELS
  pub room : length (level_zero s) + sum_by (λ level. length (level_leads level)) s.levels
      ≤ s.mem * 2 ^ j

-- entries without those that tell nothing in a state
abbrev pub thinned_in : State → List Entry → List Entry
thinned_in s entries = thinned (versions_of s) (marks_of s) entries

-- the union of all that a state says is thinned and planned for level j
pub record Compacts (s : State) (j : ℕ) (entries : List Entry) (plan : Plan) : Type 0 where
  pub room : HasRoomForAll s j
  pub union : IsUnion (told_by s s.levels) entries
  pub horizon : horizon_of plan ≡ length (versions_of s)
  pub split : IsPlan (versions_of s) (thinned_in s entries) plan

-- the level that it writes, if there is one
abbrev pub compact_level : State → ℕ → List Entry → Plan → ℕ → List Level
compact_level s j entries plan first =
    level_if plan.parts (planned_level (versions_of s) (thinned_in s entries) plan j first)

-- the same of groups whose versions were split by their numbers
pub record CompactsGroups (s : State) (j : ℕ) (groups : List (List Entry)) (own live : ℕ → ℕ)
    (plan : Plan) : Type 0 where
  pub room : HasRoomForAll s j
  pub union : IsUnion (told_by s s.levels) (grouped_entries groups)
  pub grouped : AreGroups groups
  pub horizon : horizon_of plan ≡ length (versions_of s)
  pub split : SplitsGroups (versions_of s) (map (thinned_in s) groups) own live plan

-- the level that this writes, if there is one
abbrev pub compact_level_of_groups : State → ℕ → List (List Entry) → Plan → ℕ → List Level
compact_level_of_groups s j groups plan first =
    level_if plan.parts
    (level_of_groups (versions_of s) (map (thinned_in s) groups) plan j first)

-- a state with these levels alone; what compactions wrote is counted by itself
abbrev pub compacted_to : State → List Level → ℕ → ℕ → State
compacted_to s levels compacted next_array =
    record (promoted s levels s.written next_array) { compacted = compacted }
