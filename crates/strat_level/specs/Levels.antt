-- Levels in memory: descriptors of arrays, each for the versions of its tag.
use Rattle.std.specs.Prelude.{ℕ, ◌-◌, ◌≤◌, nat_le, Bool, if◌then◌else◌, List, Option, Some, None, slice_index_or}
use Rattle.std.specs.List.{find, count_by, sum_by}
use Rattle.strat_base.specs.Tree.{Parents, below}
use Rattle.strat_base.specs.Entries.{is_tagged}
use Rattle.strat_base.specs.declared.descriptors.ArrayDesc.{ArrayDesc}
use Rattle.strat_base.specs.declared.descriptors.LevelDesc.{LevelDesc}

-- whether an array is for a version: its tag holds it
abbrev pub is_for : ℕ → ArrayDesc → Bool
is_for v a = is_tagged a.versions v

-- how many arrays are for a version
abbrev pub arrays_for : List ArrayDesc → ℕ → ℕ
arrays_for arrays v = count_by (is_for v) arrays

-- no version stands in two tags
pub record HaveDisjointTags (arrays : List ArrayDesc) : Type 0 where
  pub once : (v : ℕ) → arrays_for arrays v ≤ 1

-- the array of a level that is asked at a version: its tag holds the version, or else its nearest
-- ancestor, below the horizon
abbrev pub desc_for : Parents → LevelDesc → ℕ → Option ArrayDesc
desc_for parents level v = find (is_for (below parents v level.horizon)) level.arrays

-- the leads that a level's arrays have, as their descriptors say
abbrev pub desc_leads : LevelDesc → ℕ
desc_leads level = sum_by (λ a. a.leads) level.arrays

-- the level of a number, counted from 1; none where it is empty or past the last
abbrev pub level_numbered : List (Option LevelDesc) → ℕ → Option LevelDesc
level_numbered levels number =
    if nat_le 1 number then slice_index_or levels (number - 1) None else None

-- the leads of a level, or 0 where it is empty
abbrev pub leads_if_any : Option LevelDesc → ℕ
leads_if_any None = 0
leads_if_any (Some level) = desc_leads level
