-- The rules of a level, as numbers tell them that are counted group by group.
use Rattle.std.specs.Prelude.{◌≡◌, ℕ, ◌*◌, ◌==◌, nat_le, ◌&&◌, ◌||◌, Bool, List, length, map, IsTrue}
use Rattle.std.specs.List.{list_all, range_with_len}
use Rattle.strat_base.specs.Tree.{Parents}
use Rattle.strat_base.specs.Entries.{Entry, is_tagged, holds_entry}
use Rattle.def_state.specs.Live.{live}
use Rattle.def_state.specs.Level.{TaggedArray, Level, level_leads, tagged_versions, has_disjoint_tags, least}
use Rattle.def_state.specs.Sound.{has_ascending_entries}
use Rattle.def_split.specs.Groups.{grouped_entries, AreGroups}
use Rattle.def_check.specs.Weights.{weight_of, weights_seen}

-- how many keys a version sees
abbrev pub seen_by : Parents → List (List Entry) → ℕ → ℕ
seen_by parents groups v = weights_seen parents (λ e. 1) groups v

-- what is asked before: the arrays of a level ascend, and its tags are disjoint
pub record MayBeCounted (level : Level) : Type 0 where
  pub ascending : IsTrue (list_all has_ascending_entries level.arrays)
  pub disjoint : IsTrue (has_disjoint_tags level)

-- the groups of a level: its leads, key by key
pub record AreLeadsOf (level : Level) (groups : List (List Entry)) : Type 0 where
  pub grouped : AreGroups groups
  pub same : (e : Entry) → holds_entry (grouped_entries groups) e
      ≡ holds_entry (level_leads level) e

-- the groups of an array: its entries, key by key
pub record AreContentOf (a : TaggedArray) (groups : List (List Entry)) : Type 0 where
  pub grouped : AreGroups groups
  pub whole : grouped_entries groups ≡ a.content

-- b: a version below the horizon is in a tag, or sees no key
abbrev pub tags_seen : Parents → Level → List (List Entry) → Bool
tags_seen parents level groups =
    list_all (λ v. is_tagged (tagged_versions level) v || (seen_by parents groups v == 0))
    (range_with_len 0 level.horizon)

-- c: at each version of its tag the entries live in an array are leads of its level, and an array and its level
-- have as many keys, which weigh the same
abbrev pub weighs_as : Parents → List (List Entry) → TaggedArray → List (List Entry) → Bool
weighs_as parents groups a mine =
    list_all (λ v.
    list_all (holds_entry (grouped_entries groups)) (live parents a.content v)
    && (seen_by parents mine v == seen_by parents groups v)
    && (weights_seen parents weight_of mine v == weights_seen parents weight_of groups v)) a.tag

-- d: at each version of its tag an array has a third of its entries live
abbrev pub sees_third : Parents → TaggedArray → List (List Entry) → Bool
sees_third parents a mine =
    list_all (λ v. nat_le (length a.content) (3 * seen_by parents mine v)) a.tag

-- k: the least number that a version of its tag sees
abbrev pub least_seen : Parents → TaggedArray → List (List Entry) → ℕ
least_seen parents a mine = least (map (λ v. seen_by parents mine v) a.tag)
