-- When a state is sound.
use Rattle.std.specs.Prelude.{◌<◌, ℕ, suc, ◌-◌, ◌*◌, ◌^◌, ◌==◌, nat_lt, nat_le, ◌&&◌, not, Bool, true, false, List, [], ◌∷◌, ◌++◌, length, sum_by, filter, flat_map, Some, None, IsTrue}
use Rattle.std.specs.Option.{option_map_or}
use Rattle.std.specs.List.{list_any, list_all, range_with_len, AllByRecursion}
use Rattle.strat_base.specs.declared.limits.TheConstants.{LEVELS}
use Rattle.strat_base.specs.Tree.{Parents, is_known, parent_of}
use Rattle.strat_base.specs.Marks.{Marks, is_dropped, has_living_child, are_pruned}
use Rattle.strat_base.specs.Entries.{is_ascending}
use Rattle.strat_base.specs.Change.{Change, Put, Delete, Clone, DropVersion}
use Rattle.def_state.specs.Level.{TaggedArray, Level, own_leads, least_live, level_leads, IsStratified}
use Rattle.def_state.specs.State.{State, versions_of, marks_of, is_living, journal_updates, changes_of, tree_after, marks_after}

-- version 0 alone is a root, and every other parent was made before its child
abbrev pub is_tree_from : ℕ → Parents → Bool
is_tree_from n [] = true
is_tree_from n (None ∷ parents) = (n == 0) && is_tree_from (suc n) parents
is_tree_from n (Some p ∷ parents) = nat_lt p n && is_tree_from (suc n) parents

-- parents are those of a tree
abbrev pub is_tree : Parents → Bool
is_tree parents = nat_lt 0 (length parents) && is_tree_from 0 parents

-- levels have arrays, and their numbers rise within what there may be
abbrev pub is_numbered_from : ℕ → List Level → Bool
is_numbered_from least [] = true
is_numbered_from least (level ∷ levels) =
    nat_le least level.number && nat_le level.number LEVELS && nat_lt 0 (length level.arrays)
    && is_numbered_from (suc level.number) levels

-- a child of a version, living and numbered below h
abbrev pub has_child_below : State → ℕ → ℕ → Bool
has_child_below s h v =
    list_any
    (λ c. option_map_or (λ p. p == v) (parent_of (versions_of s) c) false && is_living s c)
    (range_with_len 0 h)

-- the levels above one
abbrev pub shallower : State → Level → List Level
shallower s level = filter (λ other. nat_lt other.number level.number) s.levels

-- h: a level has no more leads than it has room for
abbrev pub has_room : State → Level → Bool
has_room s level = nat_le (length (level_leads level)) (s.mem * 2 ^ level.number)

-- i: a horizon is at most the number of versions, and no greater than that of a shallower level
abbrev pub has_old_horizon : State → Level → Bool
has_old_horizon s level =
    nat_le level.horizon (length s.parents)
    && list_all (λ other. nat_le level.horizon other.horizon) (shallower s level)

-- j: a version with a child below the horizon has no lead in a shallower level or in the journal
abbrev pub is_above_frozen : State → Level → Bool
is_above_frozen s level =
    list_all (λ e. not (has_child_below s level.horizon e.version))
    (journal_updates s ++ flat_map level_leads (shallower s level))

-- k: the numbers in a descriptor are those of its array
abbrev pub is_described : State → TaggedArray → Bool
is_described s a =
    (a.entries == length a.content) && (a.leads == length (own_leads a))
    && (a.least == least_live (versions_of s) a)

-- l: the leads of all levels together are at most the manifest's updates
abbrev pub has_few_leads : State → Bool
has_few_leads s = nat_le (sum_by (λ level. length (level_leads level)) s.levels) s.updates

-- m: the entries of an array ascend strictly
abbrev pub has_ascending_entries : TaggedArray → Bool
has_ascending_entries a = is_ascending a.content

-- a version was made and not dropped
abbrev pub is_there : Parents → Marks → ℕ → Bool
is_there parents marks v = is_known parents v && not (is_dropped marks v)

-- a version takes updates: it is there, and each child of it was dropped
abbrev pub takes_updates : Parents → Marks → ℕ → Bool
takes_updates parents marks v = is_there parents marks v && not (has_living_child parents marks v)

-- a version may be dropped: it is open, and not version 0, and one more change may be made
abbrev pub is_droppable : ℕ → Parents → Marks → ℕ → ℕ → Bool
is_droppable changes_max parents marks changes version =
    takes_updates parents marks version && not (version == 0) && not (changes == changes_max)

-- a tree, its marks and a number of changes accept a change, within these most changes and versions
abbrev pub is_accepted : ℕ → ℕ → Parents → Marks → ℕ → Change → Bool
is_accepted changes_max versions_max parents marks changes (Put version key value) =
    takes_updates parents marks version && not (changes == changes_max)
is_accepted changes_max versions_max parents marks changes (Delete version key) =
    takes_updates parents marks version && not (changes == changes_max)
is_accepted changes_max versions_max parents marks changes (Clone version) =
    is_there parents marks version && not (length parents == versions_max)
    && not (changes == changes_max)
is_accepted changes_max versions_max parents marks changes (DropVersion version) =
    is_droppable changes_max parents marks changes version

-- each change is accepted in its turn
abbrev pub are_accepted : ℕ → ℕ → Parents → Marks → ℕ → List Change → Bool
are_accepted changes_max versions_max parents marks changes [] = true
are_accepted changes_max versions_max parents marks changes (change ∷ journal) =
    is_accepted changes_max versions_max parents marks changes change
    && are_accepted changes_max versions_max (tree_after parents change) (marks_after marks change)
    (suc changes) journal

-- a state accepts one more change
abbrev pub accepts_change : State → Change → Bool
accepts_change s change =
    is_accepted s.changes_max s.versions_max (versions_of s) (marks_of s) (changes_of s) change

-- how many changes a journal has at most: what one region takes, and two fewer in the other
abbrev pub journal_max : ℕ → ℕ
journal_max mem = 2 * mem - 2

-- a state is well formed: a tree, levels in order, and a journal that was accepted in turn and fits
pub record IsWellFormed (s : State) : Type 0 where
  pub tree : IsTrue (is_tree s.parents)
  pub pruned : IsTrue (are_pruned s.parents s.marks)
  pub numbered : IsTrue (is_numbered_from 1 s.levels)
  pub accepted : IsTrue
      (are_accepted s.changes_max s.versions_max s.parents s.marks s.changes s.journal)
  pub fits : IsTrue (nat_le (length s.journal) (journal_max s.mem))

-- a state keeps all rules but j
pub record IsOrdered (s : State) : Type 0 where
  pub formed : IsWellFormed s
  pub stratified : AllByRecursion (IsStratified (versions_of s)) s.levels  -- a to g
  pub roomy : IsTrue (list_all (has_room s) s.levels)  -- h
  pub old : IsTrue (list_all (has_old_horizon s) s.levels)  -- i
  pub described : IsTrue (list_all (λ level. list_all (is_described s) level.arrays) s.levels)  -- k
  pub few : IsTrue (has_few_leads s)  -- l
  pub ascending : IsTrue
      (list_all (λ level. list_all has_ascending_entries level.arrays) s.levels)  -- m

-- a state is sound
pub record IsSound (s : State) : Type 0 where
  pub formed : IsWellFormed s
  pub stratified : AllByRecursion (IsStratified (versions_of s)) s.levels  -- a to g
  pub roomy : IsTrue (list_all (has_room s) s.levels)  -- h
  pub old : IsTrue (list_all (has_old_horizon s) s.levels)  -- i
  pub settled : IsTrue (list_all (is_above_frozen s) s.levels)  -- j
  pub described : IsTrue (list_all (λ level. list_all (is_described s) level.arrays) s.levels)  -- k
  pub few : IsTrue (has_few_leads s)  -- l
  pub ascending : IsTrue
      (list_all (λ level. list_all has_ascending_entries level.arrays) s.levels)  -- m

-- a sound state accepts a change, and has room for it in its journal
pub record Takes (s : State) (change : Change) : Type 0 where
  pub sound : IsSound s
  pub accepted : IsTrue (accepts_change s change)
  pub room : length s.journal < journal_max s.mem
