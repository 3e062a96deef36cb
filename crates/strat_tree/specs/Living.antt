-- How many children of a version were not dropped.
use Rattle.std.specs.Prelude.{◌≡◌, ◌<◌, ℕ, ◌==◌, ◌&&◌, not, Bool, false, List, length, slice_index_or}
use Rattle.std.specs.List.{count_by, range_with_len}
use Rattle.std.specs.Option.{option_map_or}
use Rattle.strat_base.specs.Tree.{Parents, parent_of}
use Rattle.strat_base.specs.Marks.{Marks, is_dropped}

-- a version is a child of v, and was not dropped
abbrev pub is_living_child : Parents → Marks → ℕ → ℕ → Bool
is_living_child parents marks v c =
    option_map_or (λ p. p == v) (parent_of parents c) false && not (is_dropped marks c)

-- how many living children a version has
abbrev pub living_children : Parents → Marks → ℕ → ℕ
living_children parents marks v =
    count_by (is_living_child parents marks v) (range_with_len 0 (length parents))

-- these are the numbers of living children of all versions
pub record AreLivingCounts (parents : Parents) (marks : Marks) (living : List ℕ) : Type 0 where
  pub len : length living ≡ length parents
  pub each : (v : ℕ) → v < length parents
      → slice_index_or living v 0 ≡ living_children parents marks v
