-- A promotion: the journal and the shallow levels become one level.
use Rattle.std.specs.Prelude.{◌≡◌, ◌<◌, ◌≤◌, ℕ, ◌+◌, ◌*◌, ◌^◌, nat_lt, nat_le, List, [], ◌∷◌, ◌++◌, length, reverse, sum_by, filter, flat_map, IsTrue}
use Rattle.std.specs.List.{list_all}
use Rattle.strat_base.specs.declared.limits.TheConstants.{LEVELS}
use Rattle.strat_base.specs.Entries.{Entry}
use Rattle.def_state.specs.Level.{Level, level_leads}
use Rattle.def_state.specs.Reading.{level_zero}
use Rattle.def_state.specs.State.{State, versions_of, marks_of, journal_updates, updates_of, changes_of, map_at}
use Rattle.def_split.specs.Groups.{grouped_entries, AreGroups, SplitsGroups, level_of_groups}
use Rattle.def_split.specs.Plan.{Part, Plan, horizon_of}
use Rattle.def_split.specs.Planned.{planned_level, IsPlan}
use Rattle.def_promote.specs.Union.{IsUnion}
use Rattle.def_promote.specs.Purge.{entries_over, groups_over}

-- two states say the same: they have the same versions with the same marks and maps, and accepted as much
pub record SaysTheSame (old new : State) : Type 0 where
  pub mem : new.mem ≡ old.mem
  pub changes_max : new.changes_max ≡ old.changes_max
  pub versions_max : new.versions_max ≡ old.versions_max
  pub versions : versions_of new ≡ versions_of old
  pub marks : marks_of new ≡ marks_of old
  pub maps : (v : ℕ) → v < length (versions_of old) → map_at new v ≡ map_at old v
  pub updates : updates_of new ≡ updates_of old
  pub changes : changes_of new ≡ changes_of old

-- the levels down to a number
abbrev pub levels_to : ℕ → List Level → List Level
levels_to j levels = filter (λ level. nat_le level.number j) levels

-- the levels deeper than a number
abbrev pub levels_behind : ℕ → List Level → List Level
levels_behind j levels = filter (λ level. nat_lt j level.number) levels

-- what the journal and these levels say of keys, the newest first
abbrev pub told_by : State → List Level → List Entry
told_by s taken = reverse (journal_updates s) ++ flat_map level_leads taken

-- a state with other levels and an empty journal
abbrev pub promoted : State → List Level → ℕ → ℕ → State
promoted s levels written next_array =
    record s {
      parents = versions_of s;
      marks = marks_of s;
      changes = changes_of s;
      updates = updates_of s;
      written = written;
      next_array = next_array;
      levels = levels;
      journal = [];
    }

-- a level, or none where it has no parts
abbrev pub level_if : List Part → Level → List Level
level_if [] level = []
level_if (part ∷ parts) level = level ∷ []

-- the journal and the first levels have room in level j, and the others are deeper
pub record Takeable (s : State) (j : ℕ) (taken kept : List Level) : Type 0 where
  pub levels_are : s.levels ≡ taken ++ kept
  pub least : 1 ≤ j
  pub most : j ≤ LEVELS
  pub deep : IsTrue (list_all (λ level. nat_lt j level.number) kept)
  pub room : length (level_zero s) + sum_by (λ level. length (level_leads level)) taken
      ≤ s.mem * 2 ^ j

-- the union of what the journal and the taken levels say is planned for level j
pub record Promotes (s : State) (j : ℕ) (taken kept : List Level) (entries : List Entry)
    (plan : Plan) : Type 0 where
  pub takes : Takeable s j taken kept
  pub union : IsUnion (told_by s taken) entries
  pub horizon : horizon_of plan ≡ length (versions_of s)
  pub split : IsPlan (versions_of s) (entries_over (versions_of s) kept entries) plan

-- the level that it writes, if there is one
abbrev pub fresh_after : State → ℕ → List Level → List Entry → Plan → ℕ → List Level
fresh_after s j kept entries plan first =
    level_if plan.parts
    (planned_level (versions_of s) (entries_over (versions_of s) kept entries) plan j first)

-- the levels after it
abbrev pub levels_after : State → ℕ → List Level → List Entry → Plan → ℕ → List Level
levels_after s j kept entries plan first = fresh_after s j kept entries plan first ++ kept

-- the same of groups whose versions were split by their numbers
pub record PromotesGroups (s : State) (j : ℕ) (taken kept : List Level) (groups : List (List Entry))
    (own live : ℕ → ℕ) (plan : Plan) : Type 0 where
  pub takes : Takeable s j taken kept
  pub union : IsUnion (told_by s taken) (grouped_entries groups)
  pub grouped : AreGroups groups
  pub horizon : horizon_of plan ≡ length (versions_of s)
  pub split : SplitsGroups (versions_of s) (groups_over (versions_of s) kept groups) own live plan

-- the level that this writes, if there is one
abbrev pub fresh_of_groups : State → ℕ → List Level → List (List Entry) → Plan → ℕ → List Level
fresh_of_groups s j kept groups plan first =
    level_if plan.parts
    (level_of_groups (versions_of s) (groups_over (versions_of s) kept groups) plan j first)

-- the levels after that
abbrev pub levels_of_groups : State → ℕ → List Level → List (List Entry) → Plan → ℕ → List Level
levels_of_groups s j kept groups plan first = fresh_of_groups s j kept groups plan first ++ kept
