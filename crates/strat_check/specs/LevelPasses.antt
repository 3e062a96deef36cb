-- A pass over the groups of a level's marked runs.
use Rattle.std.specs.Prelude.{◌≡◌, ◌<◌, ◌≤◌, ℕ, ◌^◌, List, [], length, slice_index_or}
use Rattle.std.specs.List.{list_any}
use Rattle.strat_base.specs.Entries.{Entry}
use Rattle.strat_base.specs.Tree.{Parents}
use Rattle.def_split.specs.Groups.{group_versions}
use Rattle.def_promote.specs.Merging.{MergesTo, Merges}
use Rattle.def_check.specs.Marked.{is_marked_lead, leads_of_marked}
use Rattle.strat_check.specs.MarkedGroups.{IsMerging}
use Rattle.strat_check.specs.Sightings.{Sightings, versions_added, IsSighting}
use Rattle.strat_check.specs.StrayGroups.{AreAllAsked}
use Rattle.strat_check.specs.Strays.{has_stray, has_live_stray, strays_at}
use Rattle.strat_check.specs.declared.level_count.LevelPass.{LevelPass}
use Rattle.strat_check.specs.declared.strays.Strays.{Strays}

-- what is known of a pass over versions below n and so many arrays, whatever disk its runs lie on
pub record IsLevelPass (n arrays : ℕ) (pass : LevelPass) : Type 0 where
  pub merging : IsMerging n pass.merging
  pub owners : length pass.owners.items ≡ n
  pub found : length pass.found.items ≡ arrays
  pub asked : AreAllAsked pass.found.items

-- what was found in groups of marked entries: the leads were sighted, as long as they are not too many to be counted, and
-- of each array it is kept what its strays are
pub record AreGroupsCounted (parents : Parents) (tags : List (List ℕ)) (groups : List (List Entry))
    (found : List Strays) (s : Sightings) : Type 0 where
  pub sighted : versions_added (group_versions (leads_of_marked tags groups)) ≤ 2 ^ 48
      → IsSighting parents (group_versions (leads_of_marked tags groups)) s
  pub any : (i : ℕ) → i < length found
      → (strays_at found i).has_any ≡ list_any (has_stray (is_marked_lead tags) i) groups
  pub live : (i : ℕ) → i < length found → (strays_at found i).is_live
      ≡ list_any (has_live_stray parents (is_marked_lead tags) (slice_index_or tags i []) i) groups

-- groups of runs were taken and counted, and these runs are left
pub record IsCountingLevel (parents : Parents) (tags : List (List ℕ))
    (runs left : List (List Entry)) (found : List Strays) (s : Sightings) : Type 0 where
  pub groups : List (List Entry)
  pub merged : MergesTo runs groups left
  pub counted : AreGroupsCounted parents tags groups found s

-- all groups of runs were taken and counted
pub record IsLevelCounted (parents : Parents) (tags : List (List ℕ)) (runs : List (List Entry))
    (found : List Strays) (s : Sightings) : Type 0 where
  pub groups : List (List Entry)
  pub merged : Merges runs groups
  pub counted : AreGroupsCounted parents tags groups found s
