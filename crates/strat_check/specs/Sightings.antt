-- What is counted of many keys at each version. Of each key a list has the versions of its entries, the
-- greatest first.
use Rattle.std.specs.Prelude.{◌≡◌, ℕ, ◌<◌, suc, ◌==◌, if◌then◌else◌, List, length, sum_by, find, slice_index, IsTrue}
use Rattle.std.specs.List.{list_any, list_all}
use Rattle.std.specs.Option.{option_map_or}
use Rattle.strat_base.specs.Order.{descends}
use Rattle.strat_base.specs.Tree.{Parents, parent_of, is_ancestor}
use Rattle.def_state.specs.Counted.{own_at, keys_at}
use Rattle.def_check.specs.Weights.{nearest_sum}
use Rattle.strat_tree.specs.Preorder.{Numbering, IsPreorder}

-- for each version, how many entries it has, how many those hide of the entries that its parent sees, and
-- what these weigh; how many keys it sees, and what it sees of them weighs; and an order of the versions
pub record Sightings : Type 0 where
  pub own : List ℕ
  pub hidden : List ℕ
  pub hidden_weight : List ℕ
  pub seen : List ℕ
  pub weight : List ℕ
  pub order : Numbering

-- how many entries groups have
abbrev pub versions_added : List (List ℕ) → ℕ
versions_added groups = sum_by (λ versions. length versions) groups

-- the weight of the nearest version on the path to v among versions of a key, or 0
abbrev pub weight_at : Parents → (ℕ → ℕ) → ℕ → List ℕ → ℕ
weight_at parents weight v versions =
    option_map_or weight (find (λ u. is_ancestor parents u v) versions) 0

-- the weight of the version of a key that v's parent sees, or 0
abbrev pub weight_above : Parents → (ℕ → ℕ) → ℕ → List ℕ → ℕ
weight_above parents weight v versions =
    option_map_or (λ p. weight_at parents weight p versions) (parent_of parents v) 0

-- the same where v has an entry of its own, which hides it; or 0
abbrev pub weight_lost : Parents → (ℕ → ℕ) → ℕ → List ℕ → ℕ
weight_lost parents weight v versions =
    if list_any (λ u. u == v) versions then weight_above parents weight v versions else 0

-- what v hides of all keys together
abbrev pub lost_sum : Parents → (ℕ → ℕ) → List (List ℕ) → ℕ → ℕ
lost_sum parents weight groups v = sum_by (weight_lost parents weight v) groups

-- these groups of versions were added
pub record IsSighting (parents : Parents) (groups : List (List ℕ)) (s : Sightings) : Type 0 where
  pub descending : IsTrue (list_all descends groups)
  pub own : (v : ℕ) → v < length s.own → slice_index s.own v ≡ own_at groups v
  pub hidden : (v : ℕ) → v < length s.own
      → slice_index s.hidden v ≡ lost_sum parents (λ u. 1) groups v
  pub hidden_weight : (v : ℕ) → v < length s.own
      → slice_index s.hidden_weight v ≡ lost_sum parents suc groups v
  pub placed : IsPreorder (length s.own) parents s.order

-- and what each version sees of them was summed up
pub record IsSighted (parents : Parents) (groups : List (List ℕ)) (s : Sightings) : Type 0 where
  pub own : (v : ℕ) → v < length s.own → slice_index s.own v ≡ own_at groups v
  pub seen : (v : ℕ) → v < length s.own → slice_index s.seen v ≡ keys_at parents groups v
  pub weight : (v : ℕ) → v < length s.own → slice_index s.weight v ≡ nearest_sum parents groups v
