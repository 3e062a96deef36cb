-- What is counted over the items of many keys. Of each key a list has the versions of its items, the
-- greatest first.
use Rattle.std.specs.Prelude.{◌≡◌, ℕ, ◌<◌, ◌+◌, nat_lt, ◌==◌, ◌&&◌, not, if◌then◌else◌, Bool, true, false, List, [], ◌∷◌, map, fold, length, count_by, slice_index, slice_set, IsTrue}
use Rattle.std.specs.List.{list_any, list_all}
use Rattle.std.specs.Option.{option_map_or}
use Rattle.strat_base.specs.Order.{descends}
use Rattle.strat_base.specs.Tree.{Parents, parent_of}
use Rattle.def_state.specs.Counted.{own_at, sees_one, keys_at}
use Rattle.strat_arena.specs.declared.items.Item.{Item}
use Rattle.strat_tree.specs.Preorder.{IsPreorder}
use Rattle.strat_live.specs.Tallies.{Tallies}

-- the versions of items
abbrev pub item_versions : List Item → List ℕ
item_versions items = map (λ item. item.version) items

-- the items' versions are below n
abbrev pub are_below : ℕ → List Item → Bool
are_below n items = list_all (λ item. nat_lt item.version n) items

-- a version's parent sees an item of a key
abbrev pub is_seen_above : Parents → ℕ → List ℕ → Bool
is_seen_above parents v group =
    option_map_or (λ p. sees_one parents p group) (parent_of parents v) false

-- a version has an item of a key of which its parent sees none
abbrev pub is_begun : Parents → ℕ → List ℕ → Bool
is_begun parents v group = list_any (λ u. u == v) group && not (is_seen_above parents v group)

-- at how many keys a version has an item while its parent sees none
abbrev pub begun_count : Parents → List (List ℕ) → ℕ → ℕ
begun_count parents groups v = count_by (is_begun parents v) groups

-- counts with one more at each of these places
abbrev pub tallied : List ℕ → List ℕ → List ℕ
tallied counts places = fold (λ ns v. slice_set ns v (slice_index ns v + 1)) counts places

-- counts have one more at each version at which a key begins
abbrev pub AreAdded : Parents → List ℕ → List ℕ → List ℕ → Type 0
AreAdded parents versions before after = (v : ℕ) → v < length before
    → slice_index after v
    ≡ slice_index before v + (if is_begun parents v versions then 1 else 0)

-- two trees give the versions below n the same parents
abbrev pub SameParents : ℕ → Parents → Parents → Type 0
SameParents n parents others = (v : ℕ) → v < n → parent_of parents v ≡ parent_of others v

-- these were counted over all keys so far
pub record IsTally (parents : Parents) (groups : List (List ℕ)) (tallies : Tallies) : Type 0 where
  pub descending : IsTrue (list_all descends groups)
  pub own : (v : ℕ) → v < length tallies.own → slice_index tallies.own v ≡ own_at groups v
  pub begun : (v : ℕ) → v < length tallies.own
      → slice_index tallies.begun v ≡ begun_count parents groups v
  pub placed : tallies.is_numbered ≡ true
      → IsPreorder (length tallies.own) parents tallies.order

-- these count all keys, also those that are live at each version
pub record IsCount (parents : Parents) (groups : List (List ℕ)) (tallies : Tallies) : Type 0 where
  pub descending : IsTrue (list_all descends groups)
  pub own : (v : ℕ) → v < length tallies.own → slice_index tallies.own v ≡ own_at groups v
  pub live : (v : ℕ) → v < length tallies.own
      → slice_index tallies.live v ≡ keys_at parents groups v

-- below n each version's count is what begins there and its parent's count
abbrev pub AreSummed : Parents → List ℕ → List ℕ → ℕ → Type 0
AreSummed parents begun live n = (v : ℕ) → v < n
    → slice_index live v
    ≡ slice_index begun v + option_map_or (λ p. slice_index live p) (parent_of parents v) 0
