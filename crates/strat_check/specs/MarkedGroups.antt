-- Marked runs that are merged group by group, and the versions of each group's leads.
use Rattle.std.specs.Prelude.{ℕ, ◌*◌, ◌/◌, ◌%◌, ◌==◌, nat_lt, Bool, List, map, filter, slice_index, IsTrue}
use Rattle.std.specs.List.{list_all}
use Rattle.strat_base.specs.Entries.{Entry}
use Rattle.strat_base.specs.Order.{descends}
use Rattle.strat_arena.specs.declared.items.Item.{Item}
use Rattle.strat_merge.specs.Gathered.{are_under}
use Rattle.strat_merge.specs.MergerFields.{views_of, IsUnspent}
use Rattle.strat_check.specs.MarkedRuns.{marked_seen}
use Rattle.strat_check.specs.declared.marked_group.Merging.{Merging}

-- a marked version is one of the run that owns it, by a table of the places that own each version
abbrev pub is_owner_of : List ℕ → ℕ → Bool
is_owner_of owners marked = slice_index owners (marked / 16384) == (marked % 16384)

-- a marked entry is one of the run that owns its version
abbrev pub is_owned : List ℕ → Entry → Bool
is_owned owners e = is_owner_of owners e.version

-- the versions of a group's entries that are of the runs that own them
abbrev pub owned_versions : List ℕ → List Entry → List ℕ
owned_versions owners group = map (λ e. e.version / 16384) (filter (is_owned owners) group)

-- the same of items
abbrev pub leads_among : List ℕ → List Item → List ℕ
leads_among owners items =
    map (λ item. item.version / 16384) (filter (λ item. is_owner_of owners item.version) items)

-- what is known of marked runs that are merged, on whatever disk they lie: their entries' versions are below n, and so are
-- those of the leads at hand, the greatest first
pub record IsMerging (n : ℕ) (m : Merging) : Type 0 where
  pub unspent : IsUnspent marked_seen m.merger
  pub under : IsTrue (are_under (16384 * n) (views_of marked_seen m.merger))
  pub descending : IsTrue (descends m.versions.items)
  pub low : IsTrue (list_all (λ v. nat_lt v n) m.versions.items)
