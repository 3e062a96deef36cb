-- At how many keys the maps of living versions differ from those of their parents.
use Rattle.std.specs.Prelude.{ℕ, ◌+◌, not, if◌then◌else◌, List, [], length, filter, sum_by, is_some, Some}
use Rattle.std.specs.List.{range_with_len}
use Rattle.std.specs.Option.{option_map_or}
use Rattle.std.specs.Map.{lookup}
use Rattle.std.specs.Ordering.{is_eq}
use Rattle.strat_base.specs.Order.{key_cmp}
use Rattle.strat_base.specs.Tree.{Parents, parent_of}
use Rattle.strat_base.specs.Marks.{Marks, is_dropped}
use Rattle.strat_base.specs.Entries.{is_same_value}

-- a map as the list of its pairs
abbrev pub Map : Type 0
Map = List (List ℕ × List ℕ)

-- the pairs of a map whose keys another map lacks, or has with another value
abbrev pub set_in : Map → Map → Map
set_in pairs above =
    filter
    (λ pair. not (is_same_value (Some pair.1) (lookup (λ k. is_eq (key_cmp pair.0 k)) above)))
    pairs

-- the pairs of another map whose keys this one lacks
abbrev pub gone_in : Map → Map → Map
gone_in pairs above =
    filter (λ pair. not (is_some (lookup (λ k. is_eq (key_cmp pair.0 k)) pairs))) above

-- at how many keys two maps differ, in value or presence
abbrev pub differences : Map → Map → ℕ
differences pairs above = length (set_in pairs above) + length (gone_in pairs above)

-- the map of a version's parent; a root has the empty one
abbrev pub map_above : Parents → (ℕ → Map) → ℕ → Map
map_above parents maps v = option_map_or maps (parent_of parents v) []

-- at how many keys the maps of living versions differ from those of their parents
abbrev pub kept_over : Parents → Marks → (ℕ → Map) → ℕ
kept_over parents marks maps =
    sum_by
    (λ v. if is_dropped marks v then 0 else differences (maps v) (map_above parents maps v))
    (range_with_len 0 (length parents))
