-- How it is told by two numbers that the same entries of two sets are live at a version.
use Rattle.std.specs.Prelude.{ℕ, suc, ◌==◌, ◌&&◌, if◌then◌else◌, Bool, List, length, sum_by, find}
use Rattle.std.specs.List.{list_any, list_all}
use Rattle.std.specs.Option.{option_map_or}
use Rattle.strat_base.specs.Tree.{Parents, parent_of, is_ancestor}
use Rattle.strat_base.specs.Entries.{Entry, holds_entry}
use Rattle.def_state.specs.Live.{live}

-- the weight of an entry: one more than its version
abbrev pub weight_of : Entry → ℕ
weight_of e = suc e.version

-- the entries that are live at a version are all among others, as many of the others are live there, and
-- both weigh the same
abbrev pub weighs_same : Parents → List Entry → List Entry → ℕ → Bool
weighs_same parents others entries v =
    list_all (holds_entry others) (live parents entries v)
    && (length (live parents entries v) == length (live parents others v))
    && (sum_by weight_of (live parents entries v) == sum_by weight_of (live parents others v))

-- the weight of the entry of a key that a version sees, of a group with the greatest version first
abbrev pub weight_seen : Parents → (Entry → ℕ) → ℕ → List Entry → ℕ
weight_seen parents weight v group =
    option_map_or weight (find (λ e. is_ancestor parents e.version v) group) 0

-- the same of all groups together
abbrev pub weights_seen : Parents → (Entry → ℕ) → List (List Entry) → ℕ → ℕ
weights_seen parents weight groups v = sum_by (weight_seen parents weight v) groups

-- the weight of a version's own entry in a group, if it has one
abbrev pub own_weight : (Entry → ℕ) → ℕ → List Entry → ℕ
own_weight weight v group = option_map_or weight (find (λ e. e.version == v) group) 0

-- the weight of the entry that its parent sees, where a version has one of its own: it no longer sees that
abbrev pub lost_weight : Parents → (Entry → ℕ) → ℕ → List Entry → ℕ
lost_weight parents weight v group =
    if list_any (λ e. e.version == v) group
    then option_map_or (λ p. weight_seen parents weight p group) (parent_of parents v) 0 else 0

-- one more than the nearest version on the path to v among versions of a key, the greatest first; or 0
abbrev pub nearest_at : Parents → ℕ → List ℕ → ℕ
nearest_at parents v versions = option_map_or suc (find (λ u. is_ancestor parents u v) versions) 0

-- the same of all keys together
abbrev pub nearest_sum : Parents → List (List ℕ) → ℕ → ℕ
nearest_sum parents groups v = sum_by (nearest_at parents v) groups
