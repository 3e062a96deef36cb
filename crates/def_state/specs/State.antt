-- The state of a store, as its disk says it, and what it says of keys at versions.
use Rattle.std.specs.Prelude.{ℕ, ◌+◌, ◌*◌, ◌-◌, ◌^◌, ◌==◌, nat_le, ◌||◌, not, Bool, true, false, if◌then◌else◌, List, [], ◌∷◌, ◌++◌, length, reverse, sum_by, map, flat_map, filter_map, find, fold, Option, Some, None, unwrap_or, slice_set, IsTrue}
use Rattle.std.specs.List.{list_all, range_with_len}
use Rattle.strat_base.specs.Tree.{Parents, with_child}
use Rattle.strat_base.specs.Marks.{Marks, is_dropped}
use Rattle.strat_base.specs.Entries.{Entry}
use Rattle.def_state.specs.Maps.{value_over, map_over}
use Rattle.def_state.specs.Level.{Level, level_leads, density, lead_fraction}
use Rattle.strat_base.specs.Change.{Change, Put, Delete, Clone, DropVersion}

-- a state: the limits, what the manifest says, and the changes in the journal
pub record State : Type 0 where
  pub mem : ℕ
  pub changes_max : ℕ
  pub versions_max : ℕ
  pub parents : Parents
  pub marks : Marks
  pub changes : ℕ
  pub updates : ℕ
  pub written : ℕ
  pub compacted : ℕ
  pub next_array : ℕ
  -- the levels that have arrays, the shallowest first
  pub levels : List Level
  pub journal : List Change

-- the state of a new store: version 0 alone, and nothing else
abbrev pub fresh_state : ℕ → ℕ → ℕ → State
fresh_state mem changes_max versions_max = record {
  mem = mem;
  changes_max = changes_max;
  versions_max = versions_max;
  parents = None ∷ [];
  marks = false ∷ [];
  changes = 0;
  updates = 0;
  written = 0;
  compacted = 0;
  next_array = 1;
  levels = [];
  journal = [];
}

-- the tree of versions after a change
abbrev pub tree_after : Parents → Change → Parents
tree_after parents (Put version key value) = parents
tree_after parents (Delete version key) = parents
tree_after parents (Clone version) = with_child parents version
tree_after parents (DropVersion version) = parents

-- the marks of versions after a change
abbrev pub marks_after : Marks → Change → Marks
marks_after marks (Put version key value) = marks
marks_after marks (Delete version key) = marks
marks_after marks (Clone version) = marks ++ false ∷ []
marks_after marks (DropVersion version) = slice_set marks version true

-- the versions of a state: the manifest's, and those that its journal made
abbrev pub versions_of : State → Parents
versions_of s = fold tree_after s.parents s.journal

-- the marks of a state: the manifest's, and those that its journal made
abbrev pub marks_of : State → Marks
marks_of s = fold marks_after s.marks s.journal

-- a version is not dropped
abbrev pub is_living : State → ℕ → Bool
is_living s v = not (is_dropped (marks_of s) v)

-- the entry that a change writes
abbrev pub update_of : Change → Option Entry
update_of (Put version key value) =
    Some (record { key = key; version = version; value = Some value })
update_of (Delete version key) = Some (record { key = key; version = version; value = None })
update_of (Clone version) = None
update_of (DropVersion version) = None

-- the updates in the journal, the oldest first
abbrev pub journal_updates : State → List Entry
journal_updates s = filter_map update_of s.journal

-- all that a state says of keys: the journal's updates, the latest first, then the leads by level
abbrev pub sources : State → List Entry
sources s = reverse (journal_updates s) ++ flat_map level_leads s.levels

-- the value of a key at a version: the first entry of the nearest version on its path with one
abbrev pub value_at : State → ℕ → List ℕ → Option (List ℕ)
value_at s v key = value_over (versions_of s) (sources s) v key

-- the map of a version: each key that a state speaks of, with its value there; a dropped version has none
abbrev pub map_at : State → ℕ → List (List ℕ × List ℕ)
map_at s v = if is_living s v then map_over (versions_of s) (sources s) v else []

-- how many updates were accepted
abbrev pub updates_of : State → ℕ
updates_of s = s.updates + length (journal_updates s)

-- how many changes were accepted
abbrev pub changes_of : State → ℕ
changes_of s = s.changes + length s.journal

-- a state with one more change in its journal
abbrev pub appended : State → Change → State
appended s change = record s { journal = s.journal ++ change ∷ [] }

-- how many entries a state stores
abbrev pub stored : State → ℕ
stored s =
    sum_by (λ level. sum_by (λ a. length a.content) level.arrays) s.levels
    + length (journal_updates s)

-- the densities of all arrays, the shallowest level first
abbrev pub densities : State → List (ℕ × ℕ)
densities s = flat_map (λ level. map (density (versions_of s)) level.arrays) s.levels

-- the lead fractions of all arrays, the shallowest level first
abbrev pub lead_fractions : State → List (ℕ × ℕ)
lead_fractions s = flat_map (λ level. map lead_fraction level.arrays) s.levels

-- the least level from 1 on that has room for n leads
unfoldable pub deep : ℕ → ℕ → ℕ
deep mem n = unwrap_or (find (λ d. nat_le n (mem * 2 ^ d)) (range_with_len 1 n)) 1

-- how many writes the leads of a state have ahead of them: one each for each level down to level d
abbrev pub promised : State → ℕ → ℕ
promised s d = sum_by (λ level. length (level_leads level) * (d - level.number)) s.levels

-- no level is deeper than its changes ask for, and what was written is within four times their
-- number for each level
pub record IsPaid (s : State) : Type 0 where
  pub shallow : IsTrue (list_all
      (λ level. (length (level_leads level) == 0) || nat_le level.number (deep s.mem s.changes))
      s.levels)
  pub bounded : IsTrue (nat_le
      (s.written + 4 * promised s (deep s.mem s.changes))
      (4 * deep s.mem s.changes * s.changes))
